-- The laws of the definitions, and what an accepted image says of its map. Assumes nothing.
pub mod Answers
pub mod Exact
pub mod CommonPrefixes
pub mod Prefix
pub mod Untested
pub mod Met
