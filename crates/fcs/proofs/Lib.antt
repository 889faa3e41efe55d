-- The laws of the check.
pub mod Xor
pub mod Linear
pub mod Residue
pub mod Rest
pub mod Tables
pub mod HalfOctets
pub mod Octetwise
pub mod Fours
