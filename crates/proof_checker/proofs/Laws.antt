-- Laws for the crates above: a script is accepted as one body at most, has one first fault at most, and never both.
pub use Rattle.proof_checker.proofs.Opening.{accepted_one, accepted_none}
pub use Rattle.proof_checker.proofs.Started.{fault_one}
