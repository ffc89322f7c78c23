pub mod Places
pub mod States
pub mod Asks
pub mod Effects
pub mod Claims
pub mod Groups
pub mod Changes
