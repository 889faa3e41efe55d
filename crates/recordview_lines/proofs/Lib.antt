-- Lemmas of the crate's proofs.
pub mod Sixteen
