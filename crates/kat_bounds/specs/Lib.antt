pub mod Named
pub mod Accepted
pub mod Laws
