-- Lemmas on what is printed line by line.
pub mod OneByOne
