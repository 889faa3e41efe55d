-- The promises to a host in C or Rust.
pub mod Crossing
pub mod Hosts
