-- Laws for the crates above: a problem's file has one flat problem, whose formulas may be in a problem, or one refusal or missing file that decides.
pub use Rattle.include_flat.proofs.OneAnswer.{one_list, one_decision, none_decided, never_both, one_refusal, flat_or_decided}
pub use Rattle.include_flat.proofs.KeptAllowed.{flat_allowed}
