-- The laws of the definitions, and what the program writes. Assumes nothing.
pub mod Putting
pub mod Reading
pub mod Filling
pub mod TextAnswers
pub mod Building
pub mod Next
pub mod Listing
pub mod ByNumbers
pub mod Program
