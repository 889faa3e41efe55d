-- The proofs of the contracts, one folder for each function, and examples.
pub mod Examples
