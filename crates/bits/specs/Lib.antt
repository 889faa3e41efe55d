-- Octets and bits of the line, machines that take one input at a time, and the format of a unit.
pub mod Octets
pub mod Machine
pub mod Format
