-- The laws of octets and bits.
pub mod Digits
pub mod Lines
pub mod Packing
pub mod Parts
pub mod Gathering
pub mod Whole
pub mod Writing
pub mod Typed
pub mod Machines
pub mod Joined
