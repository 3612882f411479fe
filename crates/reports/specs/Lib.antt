pub mod Counted
pub mod Format
