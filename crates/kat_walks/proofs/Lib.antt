pub mod WalkSteps
pub mod WalkLoops
pub mod Choices
pub mod WalkMembers
pub mod WalkPaths
pub mod Tries
pub mod NodeJudgings
pub mod Outcomes
