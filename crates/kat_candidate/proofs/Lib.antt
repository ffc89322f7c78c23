mod Bounding
mod PushingParts
pub mod Orders
pub mod Enumerated
pub mod Members
pub mod Determined
pub mod Pushing
