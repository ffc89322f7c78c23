pub mod Accepting
pub mod Hinting
pub mod Standing
