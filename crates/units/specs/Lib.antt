-- What a closed unit, a long unit, an abort and the end of a line octet are to the board.
pub mod Indications
pub mod Units
pub mod InnerFit
pub mod Promises
