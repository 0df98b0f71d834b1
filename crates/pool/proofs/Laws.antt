-- The laws of the definitions, a file for each file of specs/ and what serves them. Assumes nothing.
pub mod Answers
pub mod Siblings
pub mod Path
pub mod Writing
pub mod Entering
pub mod Reset
pub mod UseCount
pub mod Push
pub mod Untouched
pub mod Meaning
pub mod History
