pub mod Lists
pub mod Picked
pub mod Depths
pub mod Nexts
pub mod Placed
pub mod Matched
pub mod Given
pub mod Turns
