-- The laws of happenings and records.
pub mod Writing
pub mod Noting
pub mod Supervising
pub mod Range
