pub mod Limits
pub mod TextAnswers
pub mod TextCases
pub mod Filling
pub mod Program
pub mod Reading
pub mod Rooms
