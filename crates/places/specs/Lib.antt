pub mod Incremental
pub mod Places
pub mod Moves
