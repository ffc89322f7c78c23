pub mod Timing
pub mod Drawing
pub mod Judging
pub mod Types
