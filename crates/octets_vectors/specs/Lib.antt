pub mod Answers
pub mod Between
pub mod Sinks
