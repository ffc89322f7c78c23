pub mod CaseLemmas
pub mod Listing
