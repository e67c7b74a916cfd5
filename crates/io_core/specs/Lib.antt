pub mod Held
pub mod Causes
pub mod Known
pub mod Fetched
pub mod Stream
pub mod Entries
pub mod InMemory
pub mod Adapters
