-- Both benches alike.
pub mod Benches
