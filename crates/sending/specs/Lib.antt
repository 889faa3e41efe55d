-- Sending: stuffing, flags, and packing into whole octets.
pub mod Stuffing
pub mod Rows
pub mod Sender
pub mod Packing
pub mod InnerPutting
pub mod Stream
pub mod Promises
