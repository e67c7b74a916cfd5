-- Where steps stand.
use Rattle.std.proofs.Common.{◌≡◌, ◌≢◌, ℕ, zero, suc, ◌+◌, ◌<◌, ◌≤◌, ◌⊎◌, inl, inr, ⊎_elim, Bool, true, false, nat_lt, cond, set, replicate, Option, None, List, [], ◌∷◌, length, slice_get, Some, refl, ap, sym, ◌∙◌, subst, arith}
use Rattle.std.specs.Option.{option_eq}
use Rattle.std.specs.Bool.{beq}
use Rattle.std.specs.List.{AllByRecursion}
use Rattle.std.proofs.lemmas.List.{length-set, length-replicate}
use Rattle.vernacular_tree.specs.Contexts.{Task}
use Rattle.vernacular_tree.specs.declared.context.Context.{Context}
use Rattle.proof_plans.specs.declared.draft.Node.{Node}
use Rattle.proof_plans.specs.declared.place.Place.{Place}
use Rattle.proof_plans.specs.Runs.{Case, Above, Fire}
use Rattle.proof_plans.specs.Embeds.{branch_image, IsBefore, IsUnder, IsOver, TieHolds}
use Rattle.proof_plans.specs.Moves.{word_of}
use Rattle.proof_plans.specs.Words.{IsEndOf}
use Rattle.proof_plans.specs.declared.draft.PlanTie.TheVariants as kept
use Rattle.proof_plans.specs.Plans.{Tie, before, under, over}
use Rattle.proof_plans.specs.declared.draft.PlanTie as PlanTie
use Rattle.proof_plans.specs.Drafts.{Both, IsBranch, IsTie}
use Rattle.proof_plans.specs.declared.settle.Settled as Settled
use Rattle.proof_plans.specs.declared.settle.Settled.TheVariants as settled
use Rattle.proof_plans.specs.Places.{below, LeadsTo, PlaceHolds, PlacesHold, IsSettled}
use Rattle.proof_plans.proofs.Seen.{above_on}
use Rattle.proof_plans.proofs.Moved.{words_order, word_above}

-- an answer that is the same as `false`
pub told_false : (answer : Option Bool) → option_eq beq answer (Some false) ≡ true → answer ≡ Some false
told_false None e = absurd (cc)
told_false (Some true) e = absurd (cc)
told_false (Some false) e = refl

-- an item of a list in which one was set
set_get : {X : Type 0} (xs : List X) (k i : ℕ) (x y : X) → slice_get (set xs k x) i ≡ Some y → ((i ≡ k) × (x ≡ y)) ⊎ (slice_get xs i ≡ Some y)
set_get [] k i x y e = absurd (cc)
set_get (z ∷ zs) zero zero x y e = inl (refl, (let same : x ≡ y = cc in same))
set_get (z ∷ zs) zero (suc i) x y e = inr e
set_get (z ∷ zs) (suc k) zero x y e = inr e
set_get (z ∷ zs) (suc k) (suc i) x y e = ⊎_elim (λ here. inl (ap suc here.0, here.1)) (λ old. inr old) (set_get zs k i x y e)

-- a greater number has as many below it
grows_by : (a b x m n : ℕ) → a ≤ b → m ≤ n → (p : Bool) → nat_lt x a ≡ p → (q : Bool) → nat_lt x b ≡ q → cond p 1 0 + m ≤ cond q 1 0 + n
grows_by a b x m n low rest true e true f = omega arith
grows_by a b x m n low rest true e false f = absurd (let i : x < a = grind arith in let j : b ≤ x = grind arith in omega arith)
grows_by a b x m n low rest false e true f = omega arith
grows_by a b x m n low rest false e false f = omega arith

below_grows : (a b : ℕ) → a ≤ b → (xs : List ℕ) → below a xs ≤ below b xs
below_grows a b low [] = omega arith
below_grows a b low (x ∷ xs) = grows_by a b x (below a xs) (below b xs) low (below_grows a b low xs) (nat_lt x a) refl (nat_lt x b) refl

-- a greater number has one more below it, where the lesser one is among them
more_by : (a b x m n : ℕ) → a < b → x ≡ a → m ≤ n → (p : Bool) → nat_lt x a ≡ p → (q : Bool) → nat_lt x b ≡ q → cond p 1 0 + m + 1 ≤ cond q 1 0 + n
more_by a b x m n low same rest true e q f = absurd (let i : x < a = grind arith in omega arith)
more_by a b x m n low same rest false e true f = omega arith
more_by a b x m n low same rest false e false f = absurd (let j : b ≤ x = grind arith in omega arith)

more_on : (a b x m n : ℕ) → a < b → m + 1 ≤ n → (p : Bool) → nat_lt x a ≡ p → (q : Bool) → nat_lt x b ≡ q → cond p 1 0 + m + 1 ≤ cond q 1 0 + n
more_on a b x m n low rest true e true f = omega arith
more_on a b x m n low rest true e false f = absurd (let i : x < a = grind arith in let j : b ≤ x = grind arith in omega arith)
more_on a b x m n low rest false e true f = omega arith
more_on a b x m n low rest false e false f = omega arith

pub below_more : (a b : ℕ) → a < b → (xs : List ℕ) (k : ℕ) → slice_get xs k ≡ Some a → below a xs + 1 ≤ below b xs
below_more a b low [] k e = absurd (cc)
below_more a b low (x ∷ xs) zero e = more_by a b x (below a xs) (below b xs) low (let same : x ≡ a = cc in same) (below_grows a b (omega arith) xs) (nat_lt x a) refl (nat_lt x b) refl
below_more a b low (x ∷ xs) (suc k) e = more_on a b x (below a xs) (below b xs) low (below_more a b low xs k e) (nat_lt x a) refl (nat_lt x b) refl

-- a number among them has fewer below it than they are
one_more : (p : Bool) (m n : ℕ) → m ≤ n → cond p 1 0 + m ≤ suc n
one_more true m n h = omega arith
one_more false m n h = omega arith

below_all : (a : ℕ) (xs : List ℕ) → below a xs ≤ length xs
below_all a [] = omega arith
below_all a (x ∷ xs) = one_more (nat_lt x a) (below a xs) (length xs) (below_all a xs)

few_by : (a x m n : ℕ) → x ≡ a → m ≤ n → (p : Bool) → nat_lt x a ≡ p → cond p 1 0 + m < suc n
few_by a x m n same h true e = absurd (let i : x < a = grind arith in omega arith)
few_by a x m n same h false e = omega arith

few_on : (p : Bool) (m n : ℕ) → m < n → cond p 1 0 + m < suc n
few_on true m n h = omega arith
few_on false m n h = omega arith

pub below_few : (a : ℕ) (xs : List ℕ) (k : ℕ) → slice_get xs k ≡ Some a → below a xs < length xs
below_few a [] k e = absurd (cc)
below_few a (x ∷ xs) zero e = few_by a x (below a xs) (length xs) (let same : x ≡ a = cc in same) (below_all a xs) (nat_lt x a) refl
below_few a (x ∷ xs) (suc k) e = few_on (nat_lt x a) (below a xs) (length xs) (below_few a xs k e)

module _ (task : Task) (lent : Context) (nodes : List Node) (values : List ℕ) where
  -- two branches that lead to a third: one of them leads to the other
  pub not_apart : (one other : ℕ) (own : List Case) → one ≢ 0 → other ≢ 0
      → ((a b : List Case) → IsBranch task lent nodes one a → IsBranch task lent nodes other b → IsEndOf (word_of a) (word_of b) → ⊥)
      → ((b a : List Case) → IsBranch task lent nodes other b → IsBranch task lent nodes one a → IsEndOf (word_of b) (word_of a) → ⊥)
      → LeadsTo task lent nodes values one own → LeadsTo task lent nodes values other own → ⊥
  not_apart one other own n m left right (inl z) h = n z
  not_apart one other own n m left right (inr g) (inl z) = m z
  not_apart one other own n m left right (inr g) (inr h) =
      ⊎_elim (λ e. left g.0 h.0 g.1 h.1 e) (λ e. right h.0 g.0 h.1 g.1 e) (words_order values g.0 h.0 own g.2 h.2)

  -- a branch that leads to one that is above another one
  pub leads_on : (node : ℕ) (own lower : List Case) → Above own lower → LeadsTo task lent nodes values node own → LeadsTo task lent nodes values node lower
  leads_on node own lower above (inl z) = inl z
  leads_on node own lower above (inr h) = inr (h.0, h.1, above_on (branch_image values h.0) own lower h.2 above)

  -- a branch that is seen is one to which that of the step leads
  pub leads_over : (node : ℕ) (own seen : List Case) → node ≢ 0 → Above own (branch_image values seen) → LeadsTo task lent nodes values node own
      → (branch : List Case) × IsBranch task lent nodes node branch × IsEndOf (word_of branch) (word_of seen)
  leads_over node own seen n above (inl z) = absurd (n z)
  leads_over node own seen n above (inr h) = (h.0, h.1, word_above values h.0 seen (above_on (branch_image values h.0) own (branch_image values seen) h.2 above))

  module _ (fires : List Fire) (indices : List ℕ) where
    -- the place of a step behind another one
    pub before_place : (lower upper : ℕ) (low : Place) (rank : ℕ) → rank ≡ low.rank + 1 → IsBefore fires indices lower upper → PlaceHolds task lent nodes values fires indices lower low
        → PlaceHolds task lent nodes values fires indices upper (record { rank = rank; level = low.level })
    before_place lower upper low rank next b holds = record {
      rank = λ index is.
          let same : index ≡ b.upper = let u = b.upper_is in cc in
          let first : low.rank ≤ below b.lower indices = holds.rank b.lower b.lower_is in
          let less : b.lower < index = let o : b.lower < b.upper = b.ordered in omega arith in
          let more = below_more b.lower index less indices lower b.lower_is in omega arith;
      level = λ index fire is fire_is.
          let same : index ≡ b.upper = let u = b.upper_is in cc in
          let there : slice_get fires b.upper ≡ Some fire = subst (λ (n : ℕ). slice_get fires n ≡ Some fire) same fire_is in
          let later : b.later ≡ fire = let u = b.later_is in cc in
          leads_on low.level b.fire.branch fire.branch (subst (λ (f : Fire). Above b.fire.branch f.branch) later b.above) (holds.level b.lower b.fire b.lower_is b.fire_is);
    }

    -- there are not so many steps before one
    pub before_few : (lower upper : ℕ) (low : Place) (rank count : ℕ) → rank ≡ low.rank + 1 → count ≤ rank → length indices ≡ count → IsBefore fires indices lower upper
        → PlaceHolds task lent nodes values fires indices lower low → ⊥
    before_few lower upper low rank count next many long b holds =
        let place = before_place lower upper low rank next b holds in
        let enough : rank ≤ below b.upper indices = place.rank b.upper b.upper_is in
        let few = below_few b.upper indices upper b.upper_is in omega arith

    -- the place of a step under a branch
    pub under_place : (step : ℕ) (branch : List Case) (old : Place) (node : ℕ) → IsBranch task lent nodes node branch → IsUnder fires values indices step branch
        → PlaceHolds task lent nodes values fires indices step old → PlaceHolds task lent nodes values fires indices step (record { rank = old.rank; level = node })
    under_place step branch old node is u holds = record {
      rank = holds.rank;
      level = λ index fire index_is fire_is.
          let same : u.index ≡ index = let a = u.index_is in cc in
          let there : slice_get fires index ≡ Some u.fire = subst (λ (n : ℕ). slice_get fires n ≡ Some u.fire) same u.fire_is in
          let equal : u.fire ≡ fire = cc in
          inr (branch, is, subst (λ (f : Fire). Above (branch_image values branch) f.branch) equal u.stands);
    }

    -- what a tie says
    pub tie_before : (lower upper : ℕ) (tie : Tie) → IsTie task lent nodes (kept.Before lower upper) tie → TieHolds fires values indices tie → IsBefore fires indices lower upper
    tie_before lower upper (before low high) is holds = subst (λ (n : ℕ). IsBefore fires indices n upper) is.0 (subst (λ (n : ℕ). IsBefore fires indices low n) is.1 holds)
    tie_before lower upper (under step branch) is holds = absurd is
    tie_before lower upper (over step branch) is holds = absurd is

    pub tie_under : (step node : ℕ) (tie : Tie) → IsTie task lent nodes (kept.Under step node) tie → TieHolds fires values indices tie
        → (branch : List Case) × IsBranch task lent nodes node branch × IsUnder fires values indices step branch
    tie_under step node (before low high) is holds = absurd is
    tie_under step node (under number branch) is holds = (branch, is.1, subst (λ (n : ℕ). IsUnder fires values indices n branch) is.0 holds)
    tie_under step node (over number branch) is holds = absurd is

    pub tie_over : (step node : ℕ) (tie : Tie) → IsTie task lent nodes (kept.Over step node) tie → TieHolds fires values indices tie
        → (branch : List Case) × IsBranch task lent nodes node branch × IsOver fires values indices step branch
    tie_over step node (before low high) is holds = absurd is
    tie_over step node (under number branch) is holds = absurd is
    tie_over step node (over number branch) is holds = (branch, is.1, subst (λ (n : ℕ). IsOver fires values indices n branch) is.0 holds)

    -- a tie that is kept is one that holds
    pub tie_at : (ties : List PlanTie.PlanTie) (holding : List Tie) → Both (IsTie task lent nodes) ties holding → AllByRecursion (TieHolds fires values indices) holding
        → (k : ℕ) (t : PlanTie.PlanTie) → slice_get ties k ≡ Some t → (tie : Tie) × IsTie task lent nodes t tie × TieHolds fires values indices tie
    tie_at [] [] both all k t is = absurd (cc)
    tie_at [] (h ∷ hs) both all k t is = absurd both
    tie_at (x ∷ xs) [] both all k t is = absurd both
    tie_at (x ∷ xs) (h ∷ hs) both all zero t is = (h, subst (λ (y : PlanTie.PlanTie). IsTie task lent nodes y h) (let same : x ≡ t = cc in same) both.0, all.0)
    tie_at (x ∷ xs) (h ∷ hs) both all (suc k) t is = tie_at xs hs both.1 all.1 k t is

    -- a place is set
    pub places_set : (places : List Place) (step : ℕ) (place : Place) → PlacesHold task lent nodes values fires indices places → PlaceHolds task lent nodes values fires indices step place
        → PlacesHold task lent nodes values fires indices (set places step place)
    places_set places step place holds new = record {
      each = λ other at is. ⊎_elim
          (λ here. subst (λ (n : ℕ). PlaceHolds task lent nodes values fires indices n at) (sym here.0) (subst (PlaceHolds task lent nodes values fires indices step) here.1 new))
          (λ old. holds.each other at old) (set_get places step other place at is);
      many = holds.many ∙ sym (length-set places step place);
    }

    -- nothing is known of as many places
    pub unknown_hold : (count : ℕ) → length indices ≡ count → PlacesHold task lent nodes values fires indices (replicate count (record { rank = 0; level = 0 }))
    unknown_hold count long = record { each = λ step place is. nothing count step place is; many = long ∙ sym (length-replicate count _) }
      where
        nothing : (count step : ℕ) (place : Place) → slice_get (replicate count (record { rank = 0; level = 0 })) step ≡ Some place → PlaceHolds task lent nodes values fires indices step place
        nothing count step place is =
            let same = replicated count step place is in record {
              rank = λ index index_is. let r : place.rank ≡ 0 = ap (λ (p : Place). p.rank) same in omega arith;
              level = λ index fire index_is fire_is. inl (ap (λ (p : Place). p.level) same);
            }
          where
            replicated : (count step : ℕ) (place : Place) → slice_get (replicate count (record { rank = 0; level = 0 })) step ≡ Some place → place ≡ record { rank = 0; level = 0 }
            replicated zero step place is = absurd (cc)
            replicated (suc count) zero place is = let e : record { rank = 0; level = 0 } ≡ place = cc in sym e
            replicated (suc count) (suc step) place is = replicated count step place is

    -- settled places hold
    pub settled_hold : (places : List Place) (s : Settled.Settled) → IsSettled task lent nodes values fires indices places s → PlacesHold task lent nodes values fires indices places
    settled_hold places settled.Same h = h
    settled_hold places settled.Changed h = h
    settled_hold places settled.Dead h = absurd h

    -- other places that hold are settled as those before
    pub settled_again : (places others : List Place) (s : Settled.Settled) → IsSettled task lent nodes values fires indices places s → PlacesHold task lent nodes values fires indices others
        → IsSettled task lent nodes values fires indices others s
    settled_again places others settled.Same h k = k
    settled_again places others settled.Changed h k = k
    settled_again places others settled.Dead h k = absurd h
