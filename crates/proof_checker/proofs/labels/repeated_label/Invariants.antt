use Rattle.std.proofs.Common.{[], map, take}
use Rattle.text_core.specs.Lists.{IsAmong}
use Rattle.proof_text.specs.declared.body.Binding.{Binding}
use Rattle.proof_checker.specs.Checks.{EachBehind}
use Rattle.proof_checker.proofs.labels.repeated_label.Given as goal

-- the labels of the first bindings differ
abbrev pub invariant-loop-at : goal.invariant-loop-at
invariant-loop-at l = EachBehind (λ front (bind : Binding). IsAmong bind.label (map (λ (other : Binding). other.label) front) → ⊥) [] (take l.at l.binds)
