pub mod Flags
pub mod Groups
pub mod Lengths
pub mod Padded
pub mod Padding
pub mod Samples
pub mod Strings
pub mod TwoVarints
