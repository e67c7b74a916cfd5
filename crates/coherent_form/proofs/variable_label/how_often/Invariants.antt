use Rattle.std.proofs.Common.{◌≡◌, ◌+◌, ◌==◌, ◌≤◌, drop}
use Rattle.coherent_form.specs.Labels.{how_many}
use Rattle.coherent_form.proofs.variable_label.how_often.Given as goal

-- how often the number stands in front, and behind
abbrev pub invariant-loop-other : goal.invariant-loop-other
invariant-loop-other l = record {
  whole : l.count + how_many (λ other. other == l.number) (drop l.other-index l.numbers) ≡ how_many (λ other. other == l.number) l.numbers;
  few : l.count ≤ l.other-index;
}
