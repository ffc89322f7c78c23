pub mod One
pub mod Bytes
pub mod Names
pub mod Values
pub mod Orders
