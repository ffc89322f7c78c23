pub mod Hinted
pub mod Evidence
pub mod Entries
pub mod Reports
pub mod Narrow
pub mod Reasons
