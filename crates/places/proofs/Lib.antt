pub mod Laws
pub mod AsksNothing
pub mod Determined
pub mod Ties
pub mod Worked
