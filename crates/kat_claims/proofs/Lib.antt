pub mod Appended
pub mod Behind
pub mod Found
pub mod LeafKinds
