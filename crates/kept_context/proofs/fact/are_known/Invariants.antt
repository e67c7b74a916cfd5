use Rattle.std.proofs.Common.{ℕ, ◌<◌, take}
use Rattle.std.specs.List.{AllByRecursion}
use Rattle.kept_context.proofs.fact.are_known.Given as goal

-- the first of them are below
abbrev pub invariant-loop-element : goal.invariant-loop-element
invariant-loop-element l = AllByRecursion (λ (e : ℕ). e < l.elements) (take l.element-index l.some)
