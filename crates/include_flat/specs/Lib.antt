pub mod Walks
pub mod Flattened
pub mod Refusals
pub mod Opened
pub mod Progress
