pub mod Appended
pub mod Lengths
