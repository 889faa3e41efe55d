-- The laws of delimitation.
pub mod Ways
pub mod Encoding
pub mod Readings
pub mod Steps
pub mod Bound
pub mod Stops
pub mod Judged
pub mod Cases
