-- Lines that ask for each request.
pub mod Lines
pub mod Promises
pub mod Plain
