-- The laws of the definitions, a file for each file of specs/ and what serves them. Assumes nothing.
pub mod Bytes
pub mod Decimal
pub mod Numerals
pub mod TabLine
pub mod Text
pub mod Writing
pub mod Answers
