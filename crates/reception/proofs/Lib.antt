-- The laws of the receiver's path.
pub mod Octets
pub mod Lines
pub mod Cutting
