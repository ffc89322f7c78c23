pub mod Bounds
pub mod Stopping
pub mod Putting
pub mod KeyOrder
pub mod Sorted
pub mod Limits
