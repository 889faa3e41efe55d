-- Lists of calls, and when the alarm comes.
pub mod History
pub mod Demand3
pub mod Examples
pub mod Views
