pub mod Chains
pub mod Codes
pub mod Flats
pub mod Forms
pub mod Laws
pub mod LeafByLeaf
pub mod Leaves
pub mod Values
