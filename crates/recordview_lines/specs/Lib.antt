-- Records read, shown as lines, and counted.
pub mod Header
pub mod Lines
pub mod Names
pub mod Reading
pub mod Totals
pub mod Viewer
