-- What a line of a console script asks for.
pub mod Areas
pub mod Bookings
pub mod Requests
