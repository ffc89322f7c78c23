pub mod Steps
pub mod Conditions
pub mod Numbered
