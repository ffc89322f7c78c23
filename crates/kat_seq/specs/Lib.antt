pub mod States
pub mod Sizes
pub mod Undone
pub mod Sorts
pub mod Operations
