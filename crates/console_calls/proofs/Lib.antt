-- The laws of the console's calls and lines.
pub mod Answering
