pub mod Calling
pub mod Taking
pub mod Streaming
pub mod Judging
pub mod Fitting
