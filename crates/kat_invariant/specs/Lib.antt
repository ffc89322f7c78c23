pub mod Situations
pub mod Asked
pub mod Legal
pub mod Relations
pub mod Inductive
pub mod Accepted
pub mod Runs
