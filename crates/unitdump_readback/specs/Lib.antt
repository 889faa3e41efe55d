-- What one link sends, as unitdump writes it.
pub mod Promises
