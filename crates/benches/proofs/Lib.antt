-- Both benches alike, shown.
pub mod Shown
pub mod Seen
pub mod Bench
pub mod Benches
