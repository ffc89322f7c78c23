pub mod Keys
pub mod Fits
