pub mod Forms
pub mod Parts
pub mod Texts
pub mod Candidates
pub mod Places
pub mod Listed
