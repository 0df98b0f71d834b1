pub mod Rule
pub mod Stands
pub mod MapNodes
pub mod Glide
