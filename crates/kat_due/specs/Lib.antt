pub mod Texts
pub mod Differences
pub mod Dues
pub mod Readings
