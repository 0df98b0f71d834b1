-- The statements used as a reader would use them, a file for each: every field gives a fact of 01's maps A and B, their pools, their image and slices that are none.
-- A statement that says less breaks the use of what it left out. Assumes nothing.
pub mod Values
pub mod Acceptance
pub mod Demand3
pub mod Demand2
pub mod Demand1
pub mod NotReset
pub mod Untested
pub mod Lines
pub mod Program
pub mod Worked
pub mod Ties
