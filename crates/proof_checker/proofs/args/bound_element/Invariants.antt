use Rattle.std.proofs.Common.{map, take}
use Rattle.text_core.specs.Lists.{IsAmong}
use Rattle.proof_text.specs.declared.body.Binding.{Binding}
use Rattle.proof_checker.proofs.args.bound_element.Given as goal

-- the label is that of none of the first bindings
abbrev pub invariant-loop-bind : goal.invariant-loop-bind
invariant-loop-bind l = IsAmong l.label (map (λ (b : Binding). b.label) (take l.bind-index l.binds)) → ⊥
