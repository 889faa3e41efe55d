-- The frame check sequence.
pub mod Check
pub mod HalfOctets
pub mod Table
pub mod Promises
