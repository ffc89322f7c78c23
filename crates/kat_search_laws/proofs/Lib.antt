mod Summing
mod Entries
mod Keeping
mod Refuting
pub mod Nodes
pub mod WalksBoth
pub mod PointsForth
pub mod PointsBack
mod Membership
mod Evidence
mod Texts
mod Fronts
mod Endings
pub mod Steps
mod Reading
mod Cuts
mod Narrowing
mod Naming
pub mod Confirming
pub mod Determined
