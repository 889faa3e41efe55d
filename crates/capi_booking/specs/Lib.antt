-- The limits that a host can ask for.
pub mod Limits
