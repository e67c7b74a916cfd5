-- Which lines a split need not be tried on, and what a split of the others shows.
use Rattle.std.proofs.Common.{◌≡◌, ℕ, ◌+◌, ◌-◌, ◌<◌, ◌≤◌, ◌⊎◌, inl, inr, List, [], ◌∷◌, ◌++◌, length, take, slice_get, Some, sym, ap, ◌∙◌, subst, arith}
use Rattle.std.specs.List.{sum_by}
use Rattle.std.proofs.Math.Nat.{eq-or-lt_of_le}
use Rattle.logic_core.specs.declared.form.Atom.{Atom}
use Rattle.text_core.proofs.Laws.{take_all}
use Rattle.vernacular_tree.specs.Contexts.{Task}
use Rattle.vernacular_tree.specs.Sizes.{size}
use Rattle.vernacular_tree.specs.declared.context.Context.{Context}
use Rattle.vernacular_tree.specs.declared.context.Line.TheVariants.{Cases}
use Rattle.vernacular_tree.specs.declared.tree.Node.TheVariants as node
use Rattle.coherent_form.specs.Tasks.{CitedTask, proof_task}
use Rattle.kept_context.specs.Kept.{Kept, Represents}
use Rattle.trail_search.specs.Branches.{HaveNone, SplitHasNone, AreNoted}
use Rattle.trail_search.specs.Recorded.{Recorded}
use Rattle.trail_search.specs.Searches.{IsNoted}
use Rattle.trail_search.proofs.Branching.{proofs_size}
use Rattle.trail_search.proofs.Noting.{noted_split}

-- a line of cases with so many lists, in each context that is represented
abbrev pub HasCount : CitedTask → Context → Kept → ℕ → ℕ → Type 0
HasCount task lent kept line count = (context : Context) → Represents task lent kept context
    → (lists : List (List Atom)) × (slice_get context.lines line ≡ Some (Cases lists)) × (length lists ≡ count)

-- a split of a line with too many lists is too large
pub split_large : (task : Task) (context : Context) (line budget : ℕ)
    → ((lists : List (List Atom)) → slice_get context.lines line ≡ Some (Cases lists) → budget ≤ length lists) → SplitHasNone task context line budget
split_large task context line budget many lists bodies is prove small =
    let least = proofs_size task context lists bodies prove in
    let most = many lists is in omega arith

-- where its cases have no proofs, a split has none
pub split_none : (task : Task) (context : Context) (line count budget : ℕ)
    → ((lists : List (List Atom)) → slice_get context.lines line ≡ Some (Cases lists) → length lists ≡ count)
    → ((lists : List (List Atom)) → slice_get context.lines line ≡ Some (Cases lists) → HaveNone task context (take count lists) (budget - 1)) → SplitHasNone task context line budget
split_none task context line count budget many none lists bodies is prove small =
    let long : length lists ≤ count = let e = many lists is in omega arith in
    let all : take count lists ≡ lists = take_all lists count long in
    none lists is bodies (rw all prove) (omega arith)

-- one more line
pub split_next : (task : Task) (context : Context) (line budget : ℕ) → ((other : ℕ) → other < line → SplitHasNone task context other budget)
    → SplitHasNone task context line budget → (other : ℕ) → other < line + 1 → SplitHasNone task context other budget
split_next task context line budget before here other below =
    elim (eq-or-lt_of_le {n = other} {m = line} (omega arith)) [
      | inl same ↦ subst (λ (n : ℕ). SplitHasNone task context n budget) (sym same) here
      | inr less ↦ before other less
    ]

-- a split is noted behind its cases
pub split_noted : (task : Task) (context : Context) (line count budget : ℕ) (lists : List (List Atom)) (before mid after : Recorded) → 0 < budget
    → slice_get context.lines line ≡ Some (Cases lists) → length lists ≡ count → AreNoted task context (take count lists) (budget - 1) before mid
    → after.nodes ≡ mid.nodes ++ node.Cs line count ∷ [] → after.room ≡ mid.room → IsNoted task context budget before after
split_noted task context line count budget lists before mid after some is long noted nodes room =
    let whole : take count lists ≡ lists = take_all lists count (omega arith) in
    let one : budget - 1 + 1 ≡ budget = omega arith in
    rw (← one) (noted_split task context line lists (budget - 1) before mid after is
    (subst (λ (ls : List (List Atom)). AreNoted task context ls (budget - 1) before mid) whole noted) (rw long nodes) room)
