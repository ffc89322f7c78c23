pub mod Codes
pub mod NameCodes
pub mod Decimals
pub mod Arguments
pub mod Order
