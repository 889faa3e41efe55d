-- One indication, from unit state to record.
pub mod InnerWriting
