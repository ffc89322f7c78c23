pub mod Listings
pub mod Enumerations
pub mod Courses
