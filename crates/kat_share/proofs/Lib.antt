pub mod ToldParts
pub mod Merging
pub mod Lines
pub mod SayOne
