pub mod Sums
pub mod Taking
pub mod Merging
pub mod Refusing
pub mod Acting
pub mod Keeping
