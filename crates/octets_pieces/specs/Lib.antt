pub mod Pieces
pub mod Joined
pub mod Laws
