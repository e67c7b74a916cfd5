pub mod Sentences
pub mod English
pub mod Telling
