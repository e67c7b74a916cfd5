-- Laws for the crates above: bytes spell one script at most, have one refusal at most, and never both.
pub use Rattle.proof_text.proofs.ScriptOrRefusal.{scripts_same, refusals_same, script_not_refused}
-- Contexts inside a proof of a task: what fits, and where steps and cases lead.
pub use Rattle.proof_text.proofs.Inside.{facts_at_fit, lists_fit, case_fits, steps_reach, steps_may}
pub use Rattle.proof_text.proofs.StepWritten.{cite_same, dropped, others_may, next_after}
pub use Rattle.proof_text.proofs.BodyWritten.{taken_back, Cs_closes, branch_proves, first_dropped, others_dropped, line_same, facts_found, case_ready}
-- What the limits of a text count, and what is proper, of a split that code builds; what holds of the values that tokens spell.
pub use Rattle.proof_text.proofs.Rows.{Cs_size, sizes_in}
pub use Rattle.proof_text.proofs.Totals.{end_deepest, deepest_in, Cs_deepest, end_deepest_is}
pub use Rattle.proof_text.proofs.Watched.{counted_passes, opened_passes, counted_is, opened_is}
pub use Rattle.proof_text.proofs.Spelled.{CaseIsProper, Cs_proper}
pub use Rattle.proof_text.proofs.Valued.{EachHolds, RowsHold, value_holds}
-- What holds of a context inside a proof and of what is shown there, and that the script of a proof is proper.
pub use Rattle.proof_text.proofs.ScriptStands.{form_same}
pub use Rattle.proof_text.proofs.Inside.{start_inside, given_fits, step_inside, cases_inside, case_below}
pub use Rattle.proof_text.proofs.PrintedLines.{facts_shown, line_shown}
pub use Rattle.proof_text.proofs.ScriptProper.{facts_proper, line_proper, script_proper}
