-- The calls of a host, and lists of them.
pub mod Call
pub mod Lending
