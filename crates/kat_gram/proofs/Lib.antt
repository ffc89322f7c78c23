pub mod Told
pub mod AllListed
pub mod EnumerationSteps
pub mod OneListing
mod Passing
mod CourseLemmas
mod Resuming
