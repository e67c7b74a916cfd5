pub mod Positions
pub mod Symbols
pub mod Laws
