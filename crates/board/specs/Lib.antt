-- The link as a value.
pub mod Link
pub mod Rows
pub mod Limits
pub mod Sizes
pub mod Events
pub mod Malformed
pub mod InnerRanges
pub mod With
pub mod Promises
