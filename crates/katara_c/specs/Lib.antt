pub mod Holding
pub mod Codes
pub mod Kept
pub mod Rooms
