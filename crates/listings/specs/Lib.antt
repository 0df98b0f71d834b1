pub mod Answers
pub mod Cursors
pub mod GivenKey
pub mod Numbers
