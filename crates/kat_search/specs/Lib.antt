pub mod Verdicts
pub mod NarrowVerdicts
pub mod Findings
pub mod Answers
pub mod Laws
