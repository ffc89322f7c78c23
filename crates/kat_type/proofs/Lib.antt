pub mod Lists
pub mod Ordered
pub mod Permuted
pub mod Arranging
pub mod Signing
pub mod Same
pub mod Unions
