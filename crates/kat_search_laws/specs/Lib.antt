pub mod Walks
pub mod Points
pub mod Evidences
pub mod Reports
pub mod Laws
