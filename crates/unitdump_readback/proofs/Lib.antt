-- What one link sends, as unitdump writes it.
pub mod Emptied
pub mod Dumped
pub mod File
