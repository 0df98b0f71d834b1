-- The laws of the definitions. Assumes nothing.
pub mod Far
