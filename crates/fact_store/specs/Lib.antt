pub mod Chains
pub mod Entries
pub mod Facts
pub mod Stored
