pub mod Rows
pub mod Sums
pub mod Widths
pub mod Columns
