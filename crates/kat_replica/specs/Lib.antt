pub mod Printing
pub mod Staging
pub mod Starting
pub mod Suiting
pub mod Texts
pub mod Undoing
pub mod Variants
