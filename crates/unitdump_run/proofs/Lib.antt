-- How one read after the other makes up all of the file, and the program's case.
pub mod Dumping
pub mod Cases
