pub mod Classes
pub mod Pieces
pub mod Tokens
pub mod Found
pub mod Kinds
pub mod TextLines
pub mod Words
