-- The receiver's path by whole octets.
pub mod Counter
