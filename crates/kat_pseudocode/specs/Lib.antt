pub mod Phrases
pub mod Texts
pub mod Leaves
pub mod Naming
pub mod Keeping
pub mod Effects
pub mod Merging
pub mod Asking
