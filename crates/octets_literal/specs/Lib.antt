pub mod Integers
pub mod Literals
pub mod Faults
pub mod Lengths
pub mod Values
pub mod Puts
pub mod Laws
pub mod ErrorTexts
