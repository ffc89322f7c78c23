pub mod Atoms
mod Weighing
pub mod Refutations
pub mod Facts
pub mod HintedRuns
pub mod HintedSteps
