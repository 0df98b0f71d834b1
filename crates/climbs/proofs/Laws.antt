-- The laws of the definitions, and what they say on an image that some map has. Assumes nothing.
pub mod Perches
pub mod MapClimb
pub mod Spelling
pub mod Below
pub mod Order
pub mod Moves
pub mod MapOrder
