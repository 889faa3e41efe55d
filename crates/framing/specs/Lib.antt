-- Delimitation and the verdict on a unit.
pub mod Delimitation
pub mod Verdict
pub mod Representation
pub mod InnerReading
pub mod Promises
pub mod Cases
