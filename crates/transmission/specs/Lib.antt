-- What sends and fills put on the line.
pub mod Transmission
pub mod Promises
