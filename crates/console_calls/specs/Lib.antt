-- What lines ask of the console's board.
pub mod Console
pub mod Answers
pub mod Lines
