pub mod FormFaults
pub mod Lists
pub mod Parts
pub mod Printed
pub mod Refused
pub mod Texts
pub mod Words
pub mod WrittenParts
