-- The laws of calls on the fronts of areas.
pub mod Fronts
