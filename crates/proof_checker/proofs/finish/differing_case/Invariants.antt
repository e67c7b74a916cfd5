use Rattle.std.proofs.Common.{[], map, take}
use Rattle.std.specs.Prelude.{zip}
use Rattle.proof_text.specs.declared.body.CaseText.{CaseText}
use Rattle.proof_checker.specs.Checks.{EachBehind}
use Rattle.proof_checker.specs.Faults.{CaseShows}
use Rattle.proof_checker.specs.Kept.{branch_of, atom_seen}
use Rattle.proof_checker.proofs.finish.differing_case.Given as goal

-- the first cases show their lists
abbrev pub invariant-loop-at : goal.invariant-loop-at
invariant-loop-at l = EachBehind (λ front case. CaseShows l.task (branch_of l.trail) case) []
    (take l.at (zip (map (λ (case : CaseText). case.shown) l.cases) (map (map atom_seen) l.lists)))
