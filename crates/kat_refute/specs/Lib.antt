pub mod Lines
pub mod Laws
pub mod Weighed
pub mod HintedLines
