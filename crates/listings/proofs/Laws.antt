-- The laws of the definitions, and what they say on an image that some map has. Assumes nothing.
pub mod Answers
pub mod Cursors
pub mod GivenKey
pub mod Numbers
