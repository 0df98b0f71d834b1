-- The laws of the definitions, a file for each file of specs/ and what serves them. Assumes nothing.
pub mod Distinct
pub mod Words
pub mod Sound
pub mod SoundTest
pub mod Spelling
pub mod Meaning
pub mod Reached
