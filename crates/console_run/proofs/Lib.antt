-- Lemmas of the program's proofs.
pub mod Sessions
