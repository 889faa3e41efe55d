-- Lemmas of the program's proofs.
pub mod Filling
pub mod Records
pub mod Running
