-- Every list of picks that fit is gone through once, and no other.
use Rattle.std.proofs.Common.{◌≡◌, ℕ, zero, suc, ◌<◌, ◌⊎◌, inl, inr, Bool, true, false, cond, List, [], ◌∷◌, ◌++◌, length, refl, sym, ap, subst, ◌∙◌, append_assoc, append-nil, arith}
use Rattle.std.specs.List.{AllByRecursion}
use Rattle.std.proofs.lemmas.List.{append_cancel_left}
use Rattle.text_core.specs.Lists.{IsAmong}
use Rattle.text_core.proofs.Laws.{each_map, each_append, among_front, among_back}
use Rattle.instance_cursor.specs.Picks.{EachFits, below, all_picks}

-- no member is there twice
abbrev pub AreApart : {X : Type 0} → List X → Type 0
AreApart [] = Unit {0}
AreApart (x ∷ xs) = AllByRecursion (λ y. x ≡ y → ⊥) xs × AreApart xs

-- two lists of members, no member of the first in the second
pub apart_append : {X : Type 0} (xs ys : List X) → AreApart xs → AreApart ys
    → AllByRecursion (λ x. AllByRecursion (λ y. x ≡ y → ⊥) ys) xs → AreApart (xs ++ ys)
apart_append [] ys a b h = b
apart_append (x ∷ xs) ys a b h = (each_append (λ y. x ≡ y → ⊥) xs ys a.0 h.0, apart_append xs ys a.1 b h.1)

-- what holds of each item where a test passes holds of each that is there
when_passed : {X : Type 0} (P : X → Type 0) (passed : Bool) (xs : List X) → (passed ≡ true → AllByRecursion P xs) → AllByRecursion P (cond passed xs [])
when_passed P true xs h = h refl
when_passed P false xs h = tt

-- no item is there twice where a test passes
when_apart : {X : Type 0} (passed : Bool) (xs : List X) → AreApart xs → AreApart (cond passed xs [])
when_apart true xs h = h
when_apart false xs h = tt

-- a number below the next one is that one or below it
below_next : (n m : ℕ) → n < suc m → (m ≡ n) ⊎ (n < m)
below_next zero zero h = inl refl
below_next zero (suc m) h = inr (omega arith)
below_next (suc n) zero h = absurd (omega arith)
below_next (suc n) (suc m) h = elim (below_next n m (omega arith)) [ inl e ↦ inl (ap suc e) | inr l ↦ inr (omega arith) ]

module _ (fits : List ℕ → ℕ → Bool) (bound : ℕ → ℕ) where
  -- picks that lengthen others by so many that fit
  pub record IsLonger (count : ℕ) (front picks : List ℕ) : Type 0 where
    pub more : List ℕ
    pub is : picks ≡ front ++ more
    pub count_is : length more ≡ count
    pub fit : EachFits fits front more

  -- one more in front
  longer_by_one : (count : ℕ) (front : List ℕ) (pick : ℕ) → fits front pick ≡ true → (picks : List ℕ)
      → IsLonger count (front ++ pick ∷ []) picks → IsLonger (suc count) front picks
  longer_by_one count front pick fit picks h = record {
    more = pick ∷ h.more;
    is = h.is ∙ append_assoc front (pick ∷ []) h.more;
    count_is = ap suc h.count_is;
    fit = (fit, h.fit);
  }

  -- what holds of all that a function gives for a pick that fits holds of all below a limit
  each_below : (P : List ℕ → Type 0) (deeper : List ℕ → List (List ℕ)) (front : List ℕ)
      → ((pick : ℕ) → fits front pick ≡ true → AllByRecursion P (deeper (front ++ pick ∷ [])))
      → (limit : ℕ) → AllByRecursion P (below fits bound deeper front limit)
  each_below P deeper front h zero = tt
  each_below P deeper front h (suc pick) =
      each_append P _ _ (when_passed P (fits front pick) _ (h pick)) (each_below P deeper front h pick)

  -- all that are gone through fit
  pub each_all : (count : ℕ) (front : List ℕ) → AllByRecursion (IsLonger count front) (all_picks fits bound count front)
  each_all zero front = (record { more = []; is = sym (append-nil front); count_is = refl; fit = tt }, tt)
  each_all (suc count) front =
      each_below (IsLonger (suc count) front) (all_picks fits bound count) front
      (λ pick fit. each_map (longer_by_one count front pick fit) _ (each_all count (front ++ pick ∷ []))) (bound (length front))

  -- a member for a pick below a limit that fits
  among_below : (deeper : List ℕ → List (List ℕ)) (front : List ℕ) (pick : ℕ) → fits front pick ≡ true → (picks : List ℕ)
      → IsAmong picks (deeper (front ++ pick ∷ [])) → (limit : ℕ) → pick < limit → IsAmong picks (below fits bound deeper front limit)
  among_below deeper front pick fit picks among zero h = absurd (omega arith)
  among_below deeper front pick fit picks among (suc limit) h =
      elim (below_next pick limit h) [
        | inl e ↦ among_front picks (cond (fits front limit) (deeper (front ++ limit ∷ [])) []) _
            (subst (λ n. IsAmong picks (cond (fits front n) (deeper (front ++ n ∷ [])) [])) (sym e)
            (subst (λ b. IsAmong picks (cond b (deeper (front ++ pick ∷ [])) [])) (sym fit) among))
        | inr l ↦ among_back picks (cond (fits front limit) (deeper (front ++ limit ∷ [])) []) _
            (among_below deeper front pick fit picks among limit l)
      ]

  -- all that fit are gone through
  pub among_all : ((front : List ℕ) (pick : ℕ) → fits front pick ≡ true → pick < bound (length front))
      → (count : ℕ) (front more : List ℕ) → length more ≡ count → EachFits fits front more
      → IsAmong (front ++ more) (all_picks fits bound count front)
  among_all within zero front [] e fit = inl (sym (append-nil front))
  among_all within zero front (pick ∷ more) e fit = absurd (omega arith)
  among_all within (suc count) front [] e fit = absurd (omega arith)
  among_all within (suc count) front (pick ∷ more) e fit =
      among_below (all_picks fits bound count) front pick fit.0 (front ++ pick ∷ more)
      (subst (λ picks. IsAmong picks (all_picks fits bound count (front ++ pick ∷ []))) (append_assoc front (pick ∷ []) more)
      (among_all within count (front ++ pick ∷ []) more (omega arith) fit.1))
      (bound (length front)) (within front pick fit.0)

  -- picks that lengthen others with a next one below a limit
  record IsBelow (limit : ℕ) (front picks : List ℕ) : Type 0 where
    pick : ℕ
    more : List ℕ
    is : picks ≡ front ++ pick ∷ more
    less : pick < limit

  -- the next one of picks that lengthen one more
  next_is : (count : ℕ) (front : List ℕ) (pick : ℕ) (picks : List ℕ) → IsLonger count (front ++ pick ∷ []) picks → IsBelow (suc pick) front picks
  next_is count front pick picks h = record {
    pick = pick;
    more = h.more;
    is = h.is ∙ append_assoc front (pick ∷ []) h.more;
    less = omega arith;
  }

  -- each that is below a limit has a next one below it
  each_is_below : (count : ℕ) (front : List ℕ) (limit : ℕ) → AllByRecursion (IsBelow limit front) (below fits bound (all_picks fits bound count) front limit)
  each_is_below count front zero = tt
  each_is_below count front (suc limit) =
      each_append (IsBelow (suc limit) front) _ _
      (when_passed (IsBelow (suc limit) front) (fits front limit) _ (λ fit. each_map (next_is count front limit) _ (each_all count (front ++ limit ∷ []))))
      (each_map (λ picks h. record { pick = h.pick; more = h.more; is = h.is; less = omega (arith, h.less) }) _ (each_is_below count front limit))

  -- picks with this next one differ from those with a smaller one
  differs : (count : ℕ) (front : List ℕ) (limit : ℕ) (a b : List ℕ) → IsLonger count (front ++ limit ∷ []) a → IsBelow limit front b → a ≡ b → ⊥
  differs count front limit a b p q e =
      let same : limit ∷ p.more ≡ q.pick ∷ q.more = append_cancel_left front _ _ (sym (append_assoc front (limit ∷ []) p.more) ∙ sym p.is ∙ e ∙ q.is) in
      let pick : limit ≡ q.pick = cc in
      omega (arith, q.less)

  -- no list below a limit is gone through twice
  below_apart : (count : ℕ) (front : List ℕ) → ((pick : ℕ) → AreApart (all_picks fits bound count (front ++ pick ∷ [])))
      → (limit : ℕ) → AreApart (below fits bound (all_picks fits bound count) front limit)
  below_apart count front h zero = tt
  below_apart count front h (suc limit) =
      apart_append _ _ (when_apart (fits front limit) _ (h limit)) (below_apart count front h limit)
      (when_passed _ (fits front limit) _ (λ fit. each_map (λ a p. each_map (λ b q. differs count front limit a b p q) _ (each_is_below count front limit)) _ (each_all count (front ++ limit ∷ []))))

  -- no list is gone through twice
  pub all_apart : (count : ℕ) (front : List ℕ) → AreApart (all_picks fits bound count front)
  all_apart zero front = (tt, tt)
  all_apart (suc count) front = below_apart count front (λ pick. all_apart count (front ++ pick ∷ [])) (bound (length front))
