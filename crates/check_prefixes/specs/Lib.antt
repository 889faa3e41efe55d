-- What check_prefixes writes.
pub mod Checks
