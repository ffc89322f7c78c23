pub mod Limits
pub mod Typing
pub mod Small
pub mod Rules
pub mod Sizes
pub mod TypeFiles
pub use Rattle.kat_judging.specs.Names
pub use Rattle.kat_judging.specs.Faults
