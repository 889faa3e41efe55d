-- Words as numbers and octets.
pub mod Numbers
