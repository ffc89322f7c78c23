pub mod Adding
pub mod Small
mod Lists
mod Holders
mod Pairing
mod Printing
mod Lifting
mod Changing
mod KeepingFronts
mod Sorting
mod Timing
mod Pairs
pub mod Tracking
pub mod Knowing
mod Stepping
mod Reaching
pub mod Going
mod Agreeing
pub mod AsTypes
pub mod Fitting
pub mod Standing
mod Keeping
mod Ran
mod Replied
mod DesignLaws
mod Convergence
