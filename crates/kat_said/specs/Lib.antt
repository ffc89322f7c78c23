pub mod Numerals
pub mod Judging
pub mod Sayings
pub mod Guesses
