pub mod Statuses
pub mod Runs
pub mod Fronts
pub mod Refusals
pub mod Pieces
