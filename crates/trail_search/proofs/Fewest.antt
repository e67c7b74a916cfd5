-- Laws on the fewest rule applications of proofs from a context.
use Rattle.std.proofs.Common.{◌≡◌, ℕ, ◌-◌, ◌≤◌, inl, inr, Option, Some, None, ap, arith}
use Rattle.std.specs.Option.{IfSome, IfNone}
use Rattle.std.proofs.lemmas.Bool.{cases_lt}
use Rattle.vernacular_tree.specs.Contexts.{Task}
use Rattle.vernacular_tree.specs.Rules.{IsProof}
use Rattle.vernacular_tree.specs.Sizes.{size}
use Rattle.vernacular_tree.specs.declared.context.Context.{Context}
use Rattle.vernacular_tree.specs.declared.tree.Body.{Body}
use Rattle.trail_search.specs.Least.{HasNone, LeastFrom}

module _ (task : Task) (context : Context) where
  -- smallest proofs are of one size
  pub least_one : (m n : ℕ) → LeastFrom task context m → LeastFrom task context n → m ≡ n
  least_one m n a b =
      let one = a.least.least b.body b.least.proves in
      let two = b.least.least a.body a.least.proves in
      let first = a.size_is in
      let second = b.size_is in omega arith

  -- a proof with at most n rule applications, where none has fewer, has n
  pub small_size : (n : ℕ) (body : Body) → IsProof task context body → size body ≤ n → HasNone task context (n - 1) → size body ≡ n
  small_size n body proves small none = elim (cases_lt (size body) n) [
    | inl fewer ↦ absurd (none body proves (omega arith))
    | inr more ↦ omega arith
  ]

  -- and it is a smallest one
  pub small_least : (n : ℕ) (body : Body) → IsProof task context body → size body ≤ n → HasNone task context (n - 1) → LeastFrom task context n
  small_least n body proves small none = record {
    body = body;
    least = record {
      proves = proves;
      least = λ other also. elim (cases_lt (size other) (size body)) [
        | inl fewer ↦ absurd (none other also (omega arith))
        | inr more ↦ more
      ];
    };
    size_is = small_size n body proves small none;
  }

  -- an answer that is a smallest size, or tells that there is none within the bound, is the only one
  pub least_told : (within : ℕ) (result : Option ℕ) → IfSome result (LeastFrom task context) → IfNone result (HasNone task context within)
      → (n : ℕ) → LeastFrom task context n → n ≤ within → result ≡ Some n
  least_told within (Some m) least none n other small = ap Some (least_one m n least other)
  least_told within None least none n other small =
      let is = other.size_is in absurd (none other.body other.least.proves (omega arith))
