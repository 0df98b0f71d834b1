pub mod Perches
pub mod Spelling
pub mod Below
pub mod Order
pub mod Moves
