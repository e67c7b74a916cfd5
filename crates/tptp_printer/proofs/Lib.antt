pub mod Opened
pub mod Connectives
pub mod Listed
pub mod Shut
pub mod Formulas
pub mod Items
