-- Proofs.
pub mod Plain
pub mod Rows
pub mod Passing
pub mod Joining
pub mod Gathering
pub mod Passes
