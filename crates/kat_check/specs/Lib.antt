pub mod Acceptance
pub mod Migration
