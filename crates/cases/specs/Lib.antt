-- The scope's proved cases.
pub mod Cases
pub mod Useless
