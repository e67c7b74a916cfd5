pub mod CodedSizes
pub mod CodedStructures
pub mod Refuted
pub mod Tables
pub mod Truths
pub mod Confirmed
pub mod Laws
