-- How send and fill meet their answers.
pub mod Outputs
