-- The laws of the link's value.
pub mod Past
pub mod Ranges
pub mod NewLink
