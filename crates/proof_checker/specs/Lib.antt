pub mod Accepted
pub mod Checks
pub mod Faults
pub mod Kept
pub mod Opened
pub mod Running
