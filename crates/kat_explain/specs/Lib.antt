pub mod Sections
pub mod Relating
pub mod Earlier
pub mod Pages
