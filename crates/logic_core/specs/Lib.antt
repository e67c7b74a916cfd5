pub mod Truth
pub mod Problems
pub mod Allowed
pub mod Forms
