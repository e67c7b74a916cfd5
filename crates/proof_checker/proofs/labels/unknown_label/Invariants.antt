use Rattle.std.proofs.Common.{[], take}
use Rattle.text_core.specs.Lists.{IsAmong}
use Rattle.proof_text.specs.declared.body.Binding.{Binding}
use Rattle.proof_checker.specs.Checks.{EachBehind}
use Rattle.proof_checker.proofs.labels.unknown_label.Given as goal

-- the labels of the first bindings are known
abbrev pub invariant-loop-at : goal.invariant-loop-at
invariant-loop-at l = EachBehind (λ front (bind : Binding). IsAmong bind.label l.labels) [] (take l.at l.binds)
