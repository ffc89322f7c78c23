pub mod Followed
pub mod Owned
pub mod Vain
pub mod Growths
pub mod Changes
pub mod Whole
