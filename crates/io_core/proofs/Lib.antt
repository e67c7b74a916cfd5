pub mod Laws
pub mod Appended
pub mod Lookups
