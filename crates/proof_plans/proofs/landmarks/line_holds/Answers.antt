use Rattle.std.proofs.Common.{refl, sym, subst, []}
use Rattle.proof_plans.specs.Landmarks.{LineHolds}
use Rattle.proof_plans.proofs.Parted.{on_success}
use Rattle.proof_plans.proofs.Walked.{all_told, some_told}
use Rattle.proof_plans.proofs.landmarks.line_holds.Goals as goal

pub returns-in-Facts : goal.returns-in-Facts
returns-in-Facts c = on_success c.are_told.result c.are_told.ensures (λ told.
    subst (LineHolds c.args.set.now) (sym c.in-Facts.is) (all_told c.args.set.now [] c.as_slice.result.now c.in-Facts.facts c.as_slice.ensures told))

pub returns-in-Cases : goal.returns-in-Cases
returns-in-Cases c = on_success c.is_one_told.result c.is_one_told.ensures (λ told.
    subst (LineHolds c.args.set.now) (sym c.in-Cases.is)
    (some_told c.args.set.now [] [] c.as_slice-in-Cases.result.now c.in-Cases.lists refl c.as_slice-in-Cases.ensures told))
