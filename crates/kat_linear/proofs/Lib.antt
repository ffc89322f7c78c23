pub mod Integers
pub mod Totals
pub mod Columns
pub mod Balances
pub mod Contradictions
pub mod FirstWide
