pub mod Counts
mod Lasts
mod Numbering
mod Stated
mod Values
