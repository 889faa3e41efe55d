-- The program `recordview`.
pub mod View
