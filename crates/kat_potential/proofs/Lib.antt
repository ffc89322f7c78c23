pub mod Fitting
pub mod Few
pub mod Back
pub mod Ends
pub mod Gaps
