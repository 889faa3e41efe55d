-- A line as words.
pub mod Words
