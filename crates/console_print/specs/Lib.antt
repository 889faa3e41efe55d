-- What a console prints.
pub mod Lines
pub mod Answers
pub mod Fields
pub mod Slots
pub mod Grammar
