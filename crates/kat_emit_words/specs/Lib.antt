pub mod Naming
pub mod Kept
pub mod Scopes
