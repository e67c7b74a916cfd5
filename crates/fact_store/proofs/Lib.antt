pub mod Chained
pub mod Stored
pub mod Walks
