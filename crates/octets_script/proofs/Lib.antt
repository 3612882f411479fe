mod Endings
pub mod Decisions
mod Performed
mod TextEndings
pub mod Overs
mod OneOutcome
mod Worked
mod EachPlayed
pub mod HalfEnds
mod OverWalks
