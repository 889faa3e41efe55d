-- What is found between two flags.
pub mod BetweenFlags
pub mod Examples
