-- The laws of one indication.
pub mod Recording
pub mod Findings
pub mod Ends
