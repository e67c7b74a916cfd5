pub mod Grammar
pub mod GrammarLaw
pub mod Watching
pub mod Values
pub mod Effects
pub mod EffectsLaw
pub mod Pieces
