pub mod CallerLemmas
pub mod Cursors
pub mod lemmas
pub mod loans
