-- The cases, shown.
pub mod RecordKinds
pub mod Boards
pub mod Findings
pub mod Filtering
pub mod Cases
pub mod Useless
