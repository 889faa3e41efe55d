-- What one link sends and another receives.
pub mod Feeding
pub mod SlotRing
pub mod Reading
pub mod Streams
pub mod Using
pub mod Rounds
pub mod Promises
pub mod OneByOne
