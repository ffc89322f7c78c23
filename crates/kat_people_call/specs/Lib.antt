pub mod Pictures
pub mod Explanations
pub mod Emissions
pub mod Showing
pub mod Verbs
pub mod Codes
