pub mod Digits
pub mod Taking
pub mod Rank
pub mod Select
pub mod Nodes
pub mod Put
