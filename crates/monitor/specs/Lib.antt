-- The error monitors, the words of what is promised, and what is promised.
pub mod Monitor
pub mod History
pub mod Stretch
pub mod ErrorMonitors
pub mod Promises
