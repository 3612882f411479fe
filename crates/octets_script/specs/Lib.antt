pub mod Wides
pub mod Calls
pub mod Left
pub mod Plays
pub mod Runs
pub mod Laws
