-- How receive meets its answer, and what is promised of it.
pub mod Receiving
pub mod Cutting
