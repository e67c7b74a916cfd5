-- What crates above may cite: a structure is a countermodel, or there is one reason why it is none.
pub use Rattle.finite_model.proofs.Confirmed.{one_refusal as one_confirm_refusal, never_both as countermodel_not_refused}
