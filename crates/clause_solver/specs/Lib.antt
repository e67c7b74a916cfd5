pub mod Clauses
pub mod Stored
