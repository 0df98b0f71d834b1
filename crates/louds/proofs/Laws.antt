-- The laws of the definitions, a file for each file of specs/; of words, by which ranks and selects go; and navigation on the image of a map. Assumes nothing.
pub mod Rank
pub mod Select
pub mod Nodes
pub mod Words
pub mod Digits
pub mod Fields
pub mod ByteRanks
pub mod NthOne
pub mod Taking
pub mod MarkWords
pub mod Passing
pub mod Descending
pub mod DescendingCounted
pub mod Put
pub mod Degrees
pub mod MapNodes
