pub mod Answers
pub mod Exact
pub mod CommonPrefixes
pub mod Prefix
pub mod Untested
pub mod Met
