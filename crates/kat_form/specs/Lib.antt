pub mod Encodings
pub mod Facts
pub mod Readings
pub mod Meanings
pub mod Laws
pub mod Folds
pub mod Steps
pub mod Drafts
