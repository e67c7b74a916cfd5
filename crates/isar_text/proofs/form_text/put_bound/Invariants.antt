use Rattle.std.proofs.Common.{◌≡◌, ◌++◌, ◌+◌, ◌-◌}
use Rattle.vernacular_tree.specs.Contexts.{counted}
use Rattle.isar_text.specs.Formulas.{bound_text}
use Rattle.isar_text.proofs.form_text.put_bound.Given as goal

-- the variables so far, and those that follow
abbrev pub invariant-loop-number : goal.invariant-loop-number
invariant-loop-number l =
    l.out ++ bound_text (counted l.number (l.first + l.count - l.number)) ≡ l.fn.out ++ bound_text (counted l.first l.count)
