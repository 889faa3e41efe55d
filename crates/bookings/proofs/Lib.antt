-- Isolation, the history of a booking and its dropped units, shown.
pub mod Isolation
pub mod Courses
pub mod Inputs
pub mod History
pub mod BetweenFlags
pub mod Dropped
