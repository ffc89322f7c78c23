pub mod Terms
pub mod Slots
pub mod Entries
pub mod Puts
pub mod Evaluation
pub mod Limits
pub mod Sorts
