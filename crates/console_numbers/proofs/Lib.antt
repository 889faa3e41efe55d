-- The proofs of the contracts, one folder for each function, the laws that they rest on, and examples.
pub mod Decimals
pub mod Pairs
pub mod Front
pub mod Five
pub mod Examples
