pub mod Constants
pub mod Tokens
pub mod Orders
pub mod Alike
pub mod Listed
pub mod Tests
pub mod Costs
