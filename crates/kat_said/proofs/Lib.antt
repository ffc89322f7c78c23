pub mod Runs
pub mod FirstLines
pub mod Parts
pub mod Numbers
pub mod DigitTexts
pub mod PointTexts
pub mod Lines
