pub mod Arranging
pub mod Trials
pub mod Firsts
pub mod Words
pub mod Scripts
