pub mod Codes
pub mod Written
pub mod Sharing
pub mod Verbs
pub mod Inside
