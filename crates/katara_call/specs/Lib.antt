pub mod Passed
pub mod Called
pub mod KataraCalls
pub mod FindCalls
pub mod ShowCalls
pub mod ShareCalls
pub mod Taking
