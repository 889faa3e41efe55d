-- Delimitation by whole octets.
pub mod Rows
pub mod Plain
pub mod InnerScan
