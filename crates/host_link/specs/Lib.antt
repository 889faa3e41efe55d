-- The link as a host holds it.
pub mod Crossing
pub mod Answers
