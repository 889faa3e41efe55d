-- Lemmas on octets in hex.
pub mod Digits
