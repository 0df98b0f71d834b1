-- The laws of the definitions, and what they say on an image that some map has. Assumes nothing.
pub mod Rule
pub mod Stands
pub mod Siblings
pub mod MapImage
pub mod MapWalk
pub mod MapMoves
pub mod Glide
