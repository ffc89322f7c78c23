pub mod Grammar
pub mod Refusals
pub mod Scripts
pub mod Counted
pub mod Reading
