-- What crates above cite of the numbers of names.
pub use Rattle.signature.proofs.Symbols.{text_here, number_below}
