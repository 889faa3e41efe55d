-- The laws of the unit state.
pub mod FirstFive
pub mod Closing
pub mod UnitStates
