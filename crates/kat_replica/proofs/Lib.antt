pub mod Afterwards
pub mod Filled
pub mod Going
pub mod Rooms
pub mod Suits
pub mod Tables
pub mod Undone
