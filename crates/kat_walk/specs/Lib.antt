pub mod Machines
pub mod Walks
pub mod Pruning
pub mod Ties
pub mod Marks
