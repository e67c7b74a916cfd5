-- A goal is taken out of the others and put back.
use Rattle.std.proofs.Common.{◌≡◌, ℕ, zero, suc, ◌<◌, List, [], ◌∷◌, ◌++◌, length, slice_get, set, Option, Some, None, refl, ap, sym, ◌∙◌, subst, arith}
use Rattle.std.specs.List.{AllByRecursion}
use Rattle.text_core.proofs.Laws.{each_append, each_front, each_back}
use Rattle.proof_plans.specs.Drafts.{Both, put, put_before}
use Rattle.proof_plans.proofs.Hoped.{both_last, both_append}

-- an item with this number is written over, and written back
pub set_there : {X : Type 0} (xs : List X) (at : ℕ) (x : X) → at < length xs → slice_get (set xs at x) at ≡ Some x
set_there [] at x low = absurd (omega arith)
set_there (y ∷ ys) zero x low = refl
set_there (y ∷ ys) (suc at) x low = set_there ys at x (omega arith)

pub set_back : {X : Type 0} (xs : List X) (at : ℕ) (x y : X) → slice_get xs at ≡ Some y → set (set xs at x) at y ≡ xs
set_back [] at x y is = absurd (cc)
set_back (z ∷ xs) zero x y is = ap (λ (w : _). w ∷ xs) (let same : z ≡ y = cc in sym same)
set_back (z ∷ xs) (suc at) x y is = ap (λ (ws : List _). z ∷ ws) (set_back xs at x y is)

-- an item is put where another one stands
pub put_there : {X : Type 0} (at : ℕ) (x y : X) (xs : List X) → slice_get xs at ≡ Some y → put at x xs ≡ set xs at x ++ y ∷ []
put_there at x y xs is = ap (put_before at x xs) is

-- an item that was taken out, the newest one in its place, is put back
pub taken_put : {X : Type 0} (at : ℕ) (taken newest : X) (rest : List X) → slice_get rest at ≡ Some taken → rest ++ newest ∷ [] ≡ put at taken (set rest at newest)
taken_put at taken newest rest is =
    let there = put_there at taken newest (set rest at newest) (set_there rest at newest (Rattle.proof_plans.proofs.Steps.get_below rest taken at is)) in
    ap (λ (l : List _). l ++ newest ∷ []) (sym (set_back rest at newest taken is)) ∙ sym there

-- further on in a list
put_on : {X : Type 0} (at : ℕ) (x z : X) (xs : List X) (o : Option X) → put_before (suc at) x (z ∷ xs) o ≡ z ∷ put_before at x xs o
put_on at x z xs (Some y) = refl
put_on at x z xs None = refl

module _ {X Y : Type 0} (P : X → Y → Type 0) (Q : Y → Type 0) where
  -- what goes together with an item that was put among others goes together with it behind them
  pub both_put : (at : ℕ) (x : X) (xs : List X) (ys : List Y) → Both P (put at x xs) ys → AllByRecursion Q ys
      → (zs : List Y) × Both P (xs ++ x ∷ []) zs × AllByRecursion Q zs
  both_put at x [] ys h q = (ys, h, q)
  both_put zero x (a ∷ xs) [] h q = absurd h
  both_put zero x (a ∷ xs) (y ∷ ys) h q =
      let last = both_last P xs a ys h.1 in
      let all : AllByRecursion Q (last.0 ++ last.1 ∷ []) = subst (AllByRecursion Q) last.2 q.1 in (
        last.1 ∷ (last.0 ++ y ∷ []),
        (last.4, both_append P xs last.0 (x ∷ []) (y ∷ []) last.3 (h.0, tt)),
        ((each_back Q last.0 (last.1 ∷ []) all).0, each_append Q last.0 (y ∷ []) (each_front Q last.0 (last.1 ∷ []) all) (q.0, tt)),
      )
  both_put (suc at) x (a ∷ xs) [] h q = absurd (subst (λ (l : List X). Both P l []) (put_on at x a xs (slice_get xs at)) h)
  both_put (suc at) x (a ∷ xs) (y ∷ ys) h q =
      let on = subst (λ (l : List X). Both P l (y ∷ ys)) (put_on at x a xs (slice_get xs at)) h in
      let rest = both_put at x xs ys on.1 q.1 in (y ∷ rest.0, (on.0, rest.1), (q.0, rest.2))
