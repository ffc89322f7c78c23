pub mod Resolutions
pub mod Queues
