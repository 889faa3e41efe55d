-- How one slot and one octet after the other make up all of them.
pub mod Taking
