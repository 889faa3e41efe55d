-- The laws of the repeat filter.
pub mod UnitKinds
pub mod Likeness
pub mod Settling
pub mod Histories
pub mod Held
pub mod ByPredecessors
pub mod Cases
