-- Happenings, the monitor's part in them, and records.
pub mod Happening
pub mod Kinds
pub mod Record
pub mod Promises
