-- Lemmas of the program's proofs.
pub mod Parts
pub mod Prefixes
