-- The memory that the host lends.
pub mod Lent
pub mod Promises
