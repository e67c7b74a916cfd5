-- Laws for the crates above: bytes spell one structure at most, have one refusal at most, and never both.
pub use Rattle.model_text.proofs.ModelOrRefusal.{models_same, refusals_same, model_not_refused, model_or_refusal}
