-- Read-back over lists of calls.
pub mod Sender
pub mod ReadBack
