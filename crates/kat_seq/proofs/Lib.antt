pub mod Small
pub mod Setting
pub mod Growing
pub mod Sorting
