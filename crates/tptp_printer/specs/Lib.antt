pub mod Canonical
pub mod Named
