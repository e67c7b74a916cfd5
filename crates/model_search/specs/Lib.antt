pub mod LeastModels
pub mod Candidates
pub mod Keys
pub mod Sheets
pub mod Rules
pub mod Rounds
pub mod Orders
pub mod Nearness
