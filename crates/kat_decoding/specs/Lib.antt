pub mod Decoded
pub mod Unread
pub mod Keeps
pub mod Words
pub mod Stacks
pub mod Room
