-- What is found between two flags, shown.
pub mod BetweenFlags
pub mod Examples
