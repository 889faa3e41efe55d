-- The laws of sending.
pub mod Puttings
pub mod Stuffs
pub mod Rows
pub mod PutSteps
pub mod Pieces
pub mod Units
pub mod ReadBack
pub mod Sent
pub mod Cases
