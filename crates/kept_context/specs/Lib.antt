pub mod Lent
pub mod Kept
pub mod Noted
pub mod Cased
