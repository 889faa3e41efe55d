-- The program `unitdump`.
pub mod File
pub mod Promises
