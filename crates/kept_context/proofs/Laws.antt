-- Laws for the crates above: what stands in a context that is kept, which instances there are, and how it grows.
pub use Rattle.kept_context.proofs.Added.{atom_seen}
pub use Rattle.kept_context.proofs.Standing.{stands_seen, instance_over, instance_of}
pub use Rattle.kept_context.proofs.Rooms.{grows_same, grows_on}
