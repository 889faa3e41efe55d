-- The laws of the receiver's path by whole octets.
pub mod Counter
pub mod Plain
