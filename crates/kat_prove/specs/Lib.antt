pub mod Provings
pub mod Trials
