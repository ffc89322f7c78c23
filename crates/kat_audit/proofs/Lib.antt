pub mod Below
pub mod Going
pub mod Determining
pub mod Cutting
