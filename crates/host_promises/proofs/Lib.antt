-- The proofs of the promises to a host.
pub mod Crossing
pub mod Hosts
