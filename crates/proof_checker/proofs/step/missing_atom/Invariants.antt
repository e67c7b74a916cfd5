use Rattle.std.proofs.Common.{[], take}
use Rattle.logic_core.specs.declared.form.Atom.{Atom}
use Rattle.vernacular_tree.specs.Contexts.{atom_at, Stands}
use Rattle.proof_checker.specs.Checks.{EachBehind}
use Rattle.proof_checker.specs.Kept.{branch_of}
use Rattle.proof_checker.proofs.step.missing_atom.Given as goal

-- the first atoms stand
abbrev pub invariant-loop-at : goal.invariant-loop-at
invariant-loop-at l = EachBehind (λ front (atom : Atom). Stands (branch_of l.trail).context (atom_at l.elements atom)) [] (take l.at l.atoms)
