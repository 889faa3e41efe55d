-- The repeat filter, by its memory and by the predecessors, and what is promised.
pub mod Unit
pub mod Memory
pub mod History
pub mod Predecessors
pub mod Promises
