-- The octets, computed, and what a reader finds in them.
pub mod Cases
pub mod ReadBack
