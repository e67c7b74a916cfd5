use Rattle.std.proofs.Common.{◌≡◌, ◌+◌, ◌*◌, List, length, map, take}
use Rattle.logic_core.specs.declared.form.Atom.{Atom}
use Rattle.proof_text.specs.declared.body.CaseText.{CaseText}
use Rattle.proof_text.specs.Sizes.{size, end_size}
use Rattle.proof_checker.specs.Faults.{IsSplit}
use Rattle.proof_checker.specs.Kept.{branch_of}
use Rattle.proof_checker.specs.Running.{CasesAre, Adds, sizes_of}
use Rattle.proof_checker.proofs.checker.+check.Given as goal

-- the first cases have their nodes, and the branch is as before
abbrev pub invariant-check_cases-loop-at : goal.invariant-check_cases-loop-at
invariant-check_cases-loop-at l = record {
  same : l.trail ≡ l.fn.trail;
  added : (lists : List (List Atom)) → IsSplit l.task (branch_of l.fn.trail) l.line (map (λ (case : CaseText). case.shown) l.cases) lists
      → Adds (λ more. CasesAre l.task l.gaps (take l.at l.cases) lists more (branch_of l.fn.trail)) l.fn.nodes l.nodes;
  many : length l.nodes ≡ length l.fn.nodes + sizes_of (take l.at l.cases);
}

abbrev pub decreases-check_body : goal.decreases-check_body
decreases-check_body l = 4 * size l.text.now + 2

abbrev pub decreases-check_end : goal.decreases-check_end
decreases-check_end l = 4 * end_size l.end.now + 1

abbrev pub decreases-check_cases : goal.decreases-check_cases
decreases-check_cases l = 4 * sizes_of l.cases.now + 3

abbrev pub decreases-end_by_split : goal.decreases-end_by_split
decreases-end_by_split l = 4 * sizes_of l.cases.now + 4
