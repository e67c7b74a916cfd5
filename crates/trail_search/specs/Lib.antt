pub mod Least
pub mod Recorded
pub mod Entries
pub mod Searched
pub mod Answers
pub mod Branches
pub mod Searches
pub mod Prepared
