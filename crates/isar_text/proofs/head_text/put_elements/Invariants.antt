use Rattle.std.proofs.Common.{◌≡◌, ◌++◌, ◌-◌, map}
use Rattle.vernacular_tree.specs.Contexts.{counted}
use Rattle.isar_text.specs.Heads.{element_text, spaced}
use Rattle.isar_text.proofs.head_text.put_elements.Given as goal

-- the names so far, and those that follow
abbrev pub invariant-loop-element : goal.invariant-loop-element
invariant-loop-element l =
    l.out ++ spaced (map (element_text l.task) (counted l.element (l.count - l.element))) ≡ l.fn.out ++ spaced (map (element_text l.task) (counted 0 l.count))
