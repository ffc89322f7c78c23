pub mod Differences
pub mod Parts
