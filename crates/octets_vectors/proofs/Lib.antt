pub mod LastByte
pub mod Singles
pub mod PlainSteps
pub mod ReadingBack
pub mod WrittenVarints
pub mod ViewEnds
pub mod ViewLists
pub mod Sets
