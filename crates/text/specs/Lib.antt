-- Octets as text.
pub mod Hex
