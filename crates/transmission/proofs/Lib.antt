-- Proofs of what sends and fills put on the line.
pub mod Faults
pub mod Calls
pub mod Line
pub mod Cases
