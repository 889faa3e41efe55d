-- Receive.
pub mod Refusals
pub mod Receive
pub mod InnerProgress
pub mod Promises
