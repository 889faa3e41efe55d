-- The proofs of what is promised.
pub mod Words
pub mod Printed
pub mod Asked
pub mod Booked
pub mod PlainWords
pub mod PlainLines
