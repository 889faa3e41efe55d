-- Isolation, and what a booking's calls have seen since opening.
pub mod Isolation
pub mod Booking
pub mod History
pub mod BetweenFlags
pub mod Dropped
