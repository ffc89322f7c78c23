pub mod Members
pub mod Resolvents
