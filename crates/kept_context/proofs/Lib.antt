pub mod Lists
pub mod Added
pub mod Noting
pub mod Casing
pub mod Represented
pub mod Standing
pub mod Rooms
pub mod Laws
