pub mod ByteReads
pub mod Faulty
pub mod HalvesFit
pub mod Joins
pub mod OneDecode
pub mod OneResult
