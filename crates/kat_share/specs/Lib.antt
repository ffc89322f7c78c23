pub mod NodeDifferences
pub mod MarksTexts
pub mod ShareTexts
