-- The program `console`.
pub mod Session
