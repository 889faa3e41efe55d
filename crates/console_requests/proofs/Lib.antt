-- The proofs of the contracts, one folder for each function, the laws that they rest on, and examples.
pub mod Switches
pub mod Octets
pub mod Examples
