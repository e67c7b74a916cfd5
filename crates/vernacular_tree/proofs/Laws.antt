-- Laws for callers: of bodies and their branches, of contexts, and that what is proved from true forms is true.
pub use Rattle.vernacular_tree.proofs.Truths.{goal_true}
unfoldable pub use Rattle.vernacular_tree.proofs.Rows.{row_of}
pub use Rattle.vernacular_tree.proofs.Rows.{bodies_of, Cs_opens, Cs_shut, Cs_size}
pub use Rattle.vernacular_tree.proofs.Numbers.{counted_length}
pub use Rattle.vernacular_tree.proofs.Kept.{start_is_context, after_is_context}
