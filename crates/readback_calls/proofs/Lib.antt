-- The line of any calls, and read-back over any calls, shown.
pub mod Staying
pub mod Sender
pub mod Closing
pub mod ReadBack
