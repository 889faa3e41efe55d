-- The calls of the console's board.
pub mod Lent
pub mod Calls
