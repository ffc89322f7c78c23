pub mod Draws
pub mod Commands
pub mod Carts
pub mod Scripts
pub mod Clocks
