-- The receiver's path from line octets to records.
pub mod Line
pub mod InnerWriting
pub mod Promises
