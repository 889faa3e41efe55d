-- The laws of the lent memory.
pub mod Loops
pub mod Slots
pub mod Places
