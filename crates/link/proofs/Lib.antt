-- The laws of the calls.
pub mod Faults
pub mod Answers
pub mod Kept
