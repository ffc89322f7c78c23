pub mod Deciding
pub mod Following
pub mod Certificates
pub mod Faults
pub mod Judged
pub mod Checking
pub mod Migrating
