pub mod Given
pub mod Growing
pub mod Keeping
pub mod Acting
pub mod Fronts
pub mod Files
pub mod Near
pub mod Full
