pub mod Nodes
pub mod StateData
pub mod StateForms
pub mod Written
pub mod Possible
pub mod NodeFiles
pub mod Judgements
pub mod Packets
