pub mod Walks
pub mod Walkable
pub mod Stands
pub mod Laws
