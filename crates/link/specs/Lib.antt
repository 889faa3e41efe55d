-- The calls of a host.
pub mod Answer
pub mod Commands
pub mod Refusals
pub mod Tables
pub mod Calls
pub mod Held
pub mod Promises
