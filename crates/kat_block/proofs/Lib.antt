pub mod Places
pub mod Placing
pub mod Endings
pub mod Telling
pub mod Alikes
