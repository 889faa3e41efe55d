-- The program `lineview`.
pub mod View
