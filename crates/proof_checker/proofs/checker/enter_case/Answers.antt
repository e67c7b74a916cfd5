use Rattle.std.proofs.Common.{Some, sym, ap, ◌∙◌, subst}
use Rattle.proof_checker.specs.Kept.{FactsFit}
use Rattle.proof_checker.proofs.Cased.{case_fits}
use Rattle.proof_checker.proofs.checker.enter_case.Goals as goal

pub push_line-requires-clause-fits : goal.push_line-requires-clause-fits
push_line-requires-clause-fits c =
    let at = sym c.in-Some-Cases.ensures ∙ ap Some c.in-Some-Cases.field-0-is in
    let same = c.in_ok-facts-in-Some.ensures ∙ c.as_slice.ensures in
    subst (FactsFit c.args.trail.now.signed) (sym same)
    (case_fits c.requires.0 c.args.trail.now c.args.line c.args.case c.in-Some-Cases.lists c.in-Some.facts.now c.requires.1 at (sym c.in-Some.ensures.value))
