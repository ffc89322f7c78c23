pub mod Sums
pub mod Connectives
pub mod Readers
pub mod Symbols
pub mod Sides
pub mod Terms
pub mod Views
