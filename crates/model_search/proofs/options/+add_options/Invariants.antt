use Rattle.std.proofs.Common.{ℕ, suc, ◌≡◌, ◌<◌, List, ◌∷◌, ◌++◌, length}
use Rattle.std.specs.List.{AllByRecursion}
use Rattle.model_search.specs.Candidates.{Candidate}
use Rattle.model_search.specs.Rules.{SomeTrue}
use Rattle.model_search.specs.Sheets.{Covers, Goes}
use Rattle.model_search.proofs.options.+add_options.Given as goal

abbrev pub decreases-add_options : goal.decreases-add_options
decreases-add_options l = l.further

-- the choices whose first element is one of the first
abbrev pub invariant-loop-element : goal.invariant-loop-element
invariant-loop-element l = record {
  values : l.values.items ≡ l.fn.values.items;
  goes : Goes l.fn.sheet l.sheet;
  covers : (c : Candidate) (x : ℕ) (xs : List ℕ) → x < l.element → suc (length xs) ≡ l.further → AllByRecursion (λ y. y < l.size) xs
      → SomeTrue c (l.fn.values.items ++ x ∷ xs) l.disjuncts → Covers c l.sheet;
}
