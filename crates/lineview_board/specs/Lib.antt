-- The booking of the program `lineview`.
pub mod View
pub mod Promises
