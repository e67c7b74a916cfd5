-- Checks in order: at most one is the first that fails, and none where all hold.
use Rattle.std.proofs.Common.{◌≡◌, ℕ, zero, suc, ◌+◌, inl, inr, List, [], ◌∷◌, ◌++◌, length, take, slice_get, Some, ap, sym, ◌∙◌, subst, arith, append_assoc, append-nil, length-append}
use Rattle.text_core.proofs.Laws.{take_next}
use Rattle.std.specs.List.{AllByRecursion}
use Rattle.proof_checker.specs.Checks.{Nothing, Unless, UnlessEach, EachBehind, FailsAt}
use Rattle.proof_checker.specs.declared.refusal.Why.{Why}

-- at most one reason
abbrev pub IsOne : (Why → Type 0) → Type 0
IsOne Reason = (a b : Why) → Reason a → Reason b → a ≡ b

-- no reason
abbrev pub IsNone : (Why → Type 0) → Type 0
IsNone Reason = (a : Why) → Reason a → ⊥

-- P holds of each item, whatever is before it
pub behind_each : {X : Type 0} (P : X → Type 0) (before xs : List X) → AllByRecursion P xs → EachBehind (λ front x. P x) before xs
behind_each P before [] all = tt
behind_each P before (x ∷ xs) all = (all.0, behind_each P (before ++ x ∷ []) xs all.1)

-- P holds of each item, where what is before it does not matter
pub each_behind : {X : Type 0} (P : X → Type 0) (before xs : List X) → EachBehind (λ front x. P x) before xs → AllByRecursion P xs
each_behind P before [] all = tt
each_behind P before (x ∷ xs) all = (all.0, each_behind P (before ++ x ∷ []) xs all.1)

-- nothing is one reason at most
pub nothing_one : IsOne Nothing
nothing_one a b x y = absurd x

-- nothing is no reason
pub nothing_none : IsNone Nothing
nothing_none a x = x

-- a check before others that tell one reason at most
pub unless_one : (P : Type 0) (fault : Why) (rest : Why → Type 0) → IsOne rest → IsOne (Unless P fault rest)
unless_one P fault rest one a b (inl x) (inl y) = x.1 ∙ sym y.1
unless_one P fault rest one a b (inl x) (inr y) = absurd (x.0 y.0)
unless_one P fault rest one a b (inr x) (inl y) = absurd (y.0 x.0)
unless_one P fault rest one a b (inr x) (inr y) = one a b x.1 y.1

-- a check that holds before others that tell no reason
pub unless_none : (P : Type 0) (fault : Why) (rest : Why → Type 0) → P → IsNone rest → IsNone (Unless P fault rest)
unless_none P fault rest holds none a (inl x) = x.0 holds
unless_none P fault rest holds none a (inr x) = none a x.1

module _ {X : Type 0} (fault : ℕ → Why) (P : List X → X → Type 0) (rest : Why → Type 0) where
  -- checks of items before others that tell one reason at most
  pub each_one : (before xs : List X) → IsOne rest → IsOne (UnlessEach fault P rest before xs)
  each_one before [] one a b x y = one a b x y
  each_one before (item ∷ items) one a b x y = unless_one (P before item) (fault (length before + 1))
      (UnlessEach fault P rest (before ++ item ∷ []) items) (each_one (before ++ item ∷ []) items one) a b x y

  -- checks of items that hold before others that tell no reason
  pub each_none : (before xs : List X) → EachBehind P before xs → IsNone rest → IsNone (UnlessEach fault P rest before xs)
  each_none before [] all none a x = none a x
  each_none before (item ∷ items) all none a x = unless_none (P before item) (fault (length before + 1))
      (UnlessEach fault P rest (before ++ item ∷ []) items) all.0 (each_none (before ++ item ∷ []) items all.1 none) a x

  -- the first check that fails is told, whatever is behind the checks
  pub each_fails : (before xs : List X) (number : ℕ) → FailsAt P before xs number → UnlessEach fault P rest before xs (fault number)
  each_fails before [] number fails = absurd fails
  each_fails before (item ∷ items) number (inl here) = inl (here.0, ap fault here.1)
  each_fails before (item ∷ items) number (inr later) = inr (later.0, each_fails (before ++ item ∷ []) items number later.1)

  -- where all checks hold, what is told is behind them
  pub each_passes : (before xs : List X) (why : Why) → EachBehind P before xs → rest why → UnlessEach fault P rest before xs why
  each_passes before [] why all told = told
  each_passes before (item ∷ items) why all told = inr (all.0, each_passes (before ++ item ∷ []) items why all.1 told)

-- the first item that fails is behind a front of which all hold
pub fails_at : {X : Type 0} (P : List X → X → Type 0) (before xs : List X) (i : ℕ) (x : X) → EachBehind P before (take i xs) → slice_get xs i ≡ Some x
    → (P (before ++ take i xs) x → ⊥) → FailsAt P before xs (length before + i + 1)
fails_at P before [] i x all at fails = absurd (cc)
fails_at {X} P before (y ∷ ys) zero x all at fails =
    let same : x ≡ y = cc in
    inl (
      (λ holds. fails (subst (λ (b : List X). P b x) (sym (append-nil before)) (subst (P before) (sym same) holds))),
      (let e : length before + 0 + 1 ≡ length before + 1 = omega arith in e),
    )
fails_at {X} P before (y ∷ ys) (suc i) x all at fails =
    let rest = fails_at P (before ++ y ∷ []) ys i x all.1 at
    (λ holds. fails (subst (λ (b : List X). P b x) (append_assoc before (y ∷ []) (take i ys)) holds)) in
    let long : length (before ++ y ∷ []) ≡ length before + 1 = length-append before (y ∷ []) in
    let number : length (before ++ y ∷ []) + i + 1 ≡ length before + suc i + 1 = omega arith in
    inr (all.0, subst (FailsAt P (before ++ y ∷ []) ys) number rest)

-- one more item of which P holds
pub behind_next : {X : Type 0} (P : List X → X → Type 0) (before xs : List X) (i : ℕ) (x : X) → EachBehind P before (take i xs) → slice_get xs i ≡ Some x
    → P (before ++ take i xs) x → EachBehind P before (take (i + 1) xs)
behind_next {X} P before xs i x all at holds = subst (EachBehind P before) (sym (take_next xs i x at)) (last before (take i xs) all holds)
  where
    last : (before ys : List X) → EachBehind P before ys → P (before ++ ys) x → EachBehind P before (ys ++ x ∷ [])
    last before [] all holds = (subst (λ (b : List X). P b x) (append-nil before) holds, tt)
    last before (y ∷ ys) all holds = (all.0, last (before ++ y ∷ []) ys all.1 (subst (λ (b : List X). P b x) (sym (append_assoc before (y ∷ []) ys)) holds))
