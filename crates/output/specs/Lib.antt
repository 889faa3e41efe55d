-- Send and fill.
pub mod Refusals
pub mod Output
