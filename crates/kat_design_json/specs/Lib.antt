pub mod DesignFaults
pub mod DesignParts
pub mod Joined
pub mod PrintedDesigns
pub mod Signatures
pub mod Words
pub mod WrittenParts
