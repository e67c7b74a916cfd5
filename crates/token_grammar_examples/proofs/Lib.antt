pub mod Seen
pub mod Bounds
