-- The laws of the booking, and its case.
pub mod Views
pub mod Opened
pub mod Cases
pub mod Areas
