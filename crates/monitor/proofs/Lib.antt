-- The laws of the error monitors.
pub mod Steps
pub mod Reflected
pub mod Decay
pub mod Alarms
pub mod SixtyFive
pub mod Cases
