-- What the program `unitdump` takes from the line.
pub mod Units
