pub mod Totals
pub mod Watched
pub mod Spelled
pub mod Excesses
pub mod Faults
pub mod Read
pub mod Fronts
pub mod IsarOrRefusal
pub mod Joined
pub mod LinesPut
pub mod FirstFacts
pub mod FormsThere
pub mod HeadWritten
pub mod BranchKept
pub mod StepsTold
pub mod BranchesTold
pub mod HexDigits
pub mod NamesRead
pub mod Scanned
pub mod Listed
pub mod Decimals
pub mod Marked
pub mod Pieces
pub mod SignsRead
pub mod TokenLaws
mod Standing
mod TakenPieces
mod RowPieces
mod NamePieces
mod AtomPieces
mod LinePieces
mod StepPieces
mod EndPieces
mod Naming
mod FirstBelow
mod BodyPieces
mod IsarSpells
