pub mod Names
pub mod NameBytes
pub mod NameTexts
pub mod Lists
pub mod Exact
pub mod Numbered
pub mod formers
