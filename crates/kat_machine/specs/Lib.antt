pub mod Choices
pub mod Fitting
pub mod Grammar
pub mod Picked
pub mod Ascent
pub mod Usable
