-- What is left at a depth, and what each step of the search does to it.
use Rattle.std.proofs.Common.{◌≡◌, ℕ, zero, suc, ◌+◌, ◌-◌, ◌<◌, ◌≤◌, ◌⊎◌, inl, inr, Bool, true, false, cond, List, [], ◌∷◌, ◌++◌, length, take, drop, get_or, set, Option, Some, None, slice_get, refl, sym, ap, subst, ◌∙◌, append_assoc, append-nil, add-one, take-suc, drop-cons, take-suc-set, length-take-le, take_all, take-take, get_or-set_same, arith}
use Rattle.std.specs.Option.{option_map}
use Rattle.std.proofs.lemmas.List.{length-drop, length-set, drop_all, take-set, get_or-take}
use Rattle.std.proofs.lemmas.Option.{MatchOption-at_some}
use Rattle.text_core.proofs.Laws.{and_both, not_passes, number_same}
use Rattle.logic_core.specs.declared.form.Atom.{Atom}
use Rattle.fact_store.specs.Facts.{Fact}
use Rattle.instance_cursor.specs.Facts.{signed_number}
use Rattle.instance_cursor.specs.Picks.{EachFits, below, all_picks, picks_after}
use Rattle.instance_cursor.specs.Fitting.{Searched, is_fact_at, fits_at, fits, bound, AreFitting, CandidateAt, IsCandidate, behind, IsNext}
use Rattle.instance_cursor.specs.Picking.{left_from, left_at, left_below, left_after, HasPicked}
use borrow.Author.Tests.{ltb-true}

-- one more pick that fits
pub fitting_more : (test : List ℕ → ℕ → Bool) (front picks : List ℕ) (pick : ℕ) → EachFits test front picks → test (front ++ picks) pick ≡ true → EachFits test front (picks ++ pick ∷ [])
fitting_more test front [] pick fit h = (subst (λ ps. test ps pick ≡ true) (append-nil front) h, tt)
fitting_more test front (p ∷ picks) pick fit h =
    (fit.0, fitting_more test (front ++ p ∷ []) picks pick fit.1 (subst (λ ps. test ps pick ≡ true) (sym (append_assoc front (p ∷ []) picks)) h))

-- the front of picks that fit
fits_take : (test : List ℕ → ℕ → Bool) (front picks : List ℕ) (n : ℕ) → EachFits test front picks → EachFits test front (take n picks)
fits_take test front picks zero fit = tt
fits_take test front [] (suc n) fit = tt
fits_take test front (p ∷ picks) (suc n) fit = (fit.0, fits_take test (front ++ p ∷ []) picks n fit.1)

-- a pick that fits behind those before it
pub fits_each : (test : List ℕ → ℕ → Bool) (front picks : List ℕ) → EachFits test front picks → (i : ℕ) → i < length picks → test (front ++ take i picks) (get_or picks i 0) ≡ true
fits_each test front [] fit i h = absurd (omega arith)
fits_each test front (pick ∷ picks) fit zero h = subst (λ ps. test ps pick ≡ true) (sym (append-nil front)) fit.0
fits_each test front (pick ∷ picks) fit (suc i) h =
    subst (λ ps. test ps (get_or picks i 0) ≡ true) (append_assoc front (pick ∷ []) (take i picks)) (fits_each test (front ++ pick ∷ []) picks fit.1 i (omega arith))

module _ (s : Searched) where
  -- a pick that fits is a candidate, at each kind of depth
  fit_at : (atom : Option Atom) (picks : List ℕ) (pick : ℕ) → fits_at s atom picks pick ≡ true → CandidateAt s atom pick
  fit_at None picks pick e = ltb-true _ _ e
  fit_at (Some atom) picks pick e = is_fact (slice_get s.facts pick) e
    where
      is_fact : (fact : Option Fact) → is_fact_at s picks atom fact ≡ true → option_map (λ f. f.signed) fact ≡ Some (signed_number atom)
      is_fact None e = absurd (cc)
      is_fact (Some fact) e = ap Some (number_same _ _ (and_both _ _ e).0)

  -- a pick that fits is a candidate
  pub fit_is_candidate : (front : List ℕ) (pick : ℕ) → fits s front pick ≡ true → IsCandidate s (length front) pick
  fit_is_candidate front pick e = fit_at (slice_get s.premises (length front)) (front ++ pick ∷ []) pick e

  -- a limit is lowered past picks that do not fit
  lower : (deeper : List ℕ → List (List ℕ)) (front : List ℕ) (least limit : ℕ) → least ≤ limit
      → ((pick : ℕ) → least ≤ pick → pick < limit → fits s front pick ≡ false)
      → below (fits s) (bound s) deeper front limit ≡ below (fits s) (bound s) deeper front least
  lower deeper front zero zero h none = refl
  lower deeper front (suc least) zero h none = absurd (omega arith)
  lower deeper front least (suc limit) h none = elim (split least limit h) [
    | inl e ↦ ap (below (fits s) (bound s) deeper front) (sym e)
    | inr l ↦ ap (λ b. cond b (deeper (front ++ limit ∷ [])) [] ++ below (fits s) (bound s) deeper front limit) (none limit l (omega arith))
        ∙ lower deeper front least limit l (λ pick low high. none pick low (omega arith))
  ]
    where
      split : (a b : ℕ) → a ≤ suc b → (a ≡ suc b) ⊎ (a ≤ b)
      split zero b h = inr (omega arith)
      split (suc a) zero h = inl (omega arith)
      split (suc a) (suc b) h = elim (split a b (omega arith)) [ inl e ↦ inl (ap suc e) | inr l ↦ inr (omega arith) ]

  -- what is behind a next candidate is at most the limit
  behind_most : (depth limit : ℕ) (next : Option ℕ) → IsNext s depth limit next → behind next ≤ limit
  behind_most depth limit None h = omega arith
  behind_most depth limit (Some pick) h = let less = h.found.0 in omega arith

  module _ (depth : ℕ) (picks : List ℕ) where
    -- what is left below a limit is left below what is behind the next candidate
    pub below-next : (limit : ℕ) (next : Option ℕ) → depth ≤ length picks → IsNext s depth limit next
        → left_below s depth picks limit ≡ left_below s depth picks (behind next)
    below-next limit next h is = lower (all_picks (fits s) (bound s) (length (drop (depth + 1) picks))) (take depth picks) (behind next) limit (behind_most depth limit next is)
        (λ pick low high. not_passes (fits s (take depth picks) pick) (λ fit. is.skipped pick low high
        (subst (λ n. IsCandidate s n pick) (length-take-le depth picks h) (fit_is_candidate (take depth picks) pick fit))))

    module _ (h : depth < length picks) where
      -- a depth more of the picks
      pub take-more : take (depth + 1) picks ≡ take depth picks ++ get_or picks depth 0 ∷ []
      take-more = ap (λ n. take n picks) (add-one depth) ∙ take-suc picks depth 0 h

      -- the picks from a depth on
      drop-more : drop depth picks ≡ get_or picks depth 0 ∷ drop (depth + 1) picks
      drop-more = drop-cons picks depth 0 h ∙ ap (λ n. get_or picks depth 0 ∷ drop n picks) (sym (add-one depth))

      -- what is left from a depth on is left below its bound
      pub left_from-more : left_from s depth picks ≡ left_below s depth picks (bound s depth)
      left_from-more =
          ap (λ ps. all_picks (fits s) (bound s) (length ps) (take depth picks)) drop-more
          ∙ ap (λ n. left_below s depth picks (bound s n)) (length-take-le depth picks (omega arith))

      -- what is left behind picks is left behind them at the next depth, and below the pick at this one
      pub left_after-more : left_after s depth picks ≡ left_after s (depth + 1) picks ++ left_below s depth picks (get_or picks depth 0)
      left_after-more =
          ap (picks_after (fits s) (bound s) (take depth picks)) drop-more
          ∙ ap (λ ps. picks_after (fits s) (bound s) ps (drop (depth + 1) picks) ++ left_below s depth picks (get_or picks depth 0)) (sym take-more)

  -- ---- two lists of picks that are the same below a depth
  module _ (depth : ℕ) (a b : List ℕ) (size : length a ≡ length b) where
    -- as much is behind the depth
    size_behind : (n : ℕ) → length (drop n a) ≡ length (drop n b)
    size_behind n = length-drop n a ∙ ap (λ m. m - n) size ∙ sym (length-drop n b)

    -- with one pick the same is left
    pub left_at-same : (pick : ℕ) → take depth a ≡ take depth b → left_at s depth a pick ≡ left_at s depth b pick
    left_at-same pick front i =
        cond (fits s (front i) pick) (all_picks (fits s) (bound s) (size_behind (depth + 1) i) (front i ++ pick ∷ [])) []

    -- below a limit the same is left
    pub left_below-same : (limit : ℕ) → take depth a ≡ take depth b → left_below s depth a limit ≡ left_below s depth b limit
    left_below-same limit front i = below (fits s) (bound s) (all_picks (fits s) (bound s) (size_behind (depth + 1) i)) (front i) limit

    -- they are the same below a lower depth
    pub front_less : take (depth + 1) a ≡ take (depth + 1) b → take depth a ≡ take depth b
    front_less e = sym (take-take depth (depth + 1) a (omega arith)) ∙ ap (take depth) e ∙ take-take depth (depth + 1) b (omega arith)

    -- they have the same pick at the depth
    pub pick_same : take (depth + 1) a ≡ take (depth + 1) b → get_or a depth 0 ≡ get_or b depth 0
    pick_same e =
        sym (get_or-take (depth + 1) a depth 0 (omega arith)) ∙ ap (λ ps. get_or ps depth 0) e ∙ get_or-take (depth + 1) b depth 0 (omega arith)

  module _ (depth : ℕ) (old mid new : List ℕ) where
    -- what was picked of what was left is picked of what was left before
    pub picked_from : (left before : List (List ℕ)) (found : Bool) → before ≡ left → take depth mid ≡ take depth old
        → HasPicked s depth left mid new found → HasPicked s depth before old new found
    picked_from left before true e front h = record { front = h.front ∙ front; next = e ∙ h.next; fitting = h.fitting; over = tt }
    picked_from left before false e front h = record { front = h.front ∙ front; next = tt; fitting = tt; over = e ∙ h.over }

  -- ---- behind the last depth
  module _ (depth : ℕ) (picks : List ℕ) (end : length picks ≤ depth) where
    -- nothing is left behind picks
    left_after-end : left_after s depth picks ≡ []
    left_after-end = ap (picks_after (fits s) (bound s) (take depth picks)) (drop_all depth picks end)

    -- the picks are all that is left
    pub picked_end : AreFitting s [] (take depth picks) → HasPicked s depth (left_from s depth picks) picks picks true
    picked_end fit = record {
      front = refl;
      next = (λ i. all_picks (fits s) (bound s) (length (drop_all depth picks end i)) (take_all depth picks end i))
          ∙ ap (λ left. picks ∷ left) (sym left_after-end);
      fitting = subst (AreFitting s []) (take_all depth picks end) fit;
      over = tt;
    }

  -- ---- behind some picks

  -- what is left behind picks at the depths below one
  abbrev left_above : ℕ → List ℕ → List (List ℕ)
  left_above zero picks = []
  left_above (suc depth) picks = left_below s depth picks (get_or picks depth 0) ++ left_above depth picks

  -- what is left behind picks is left behind them at a depth, and above it
  left_after-above : (depth : ℕ) (picks : List ℕ) → depth ≤ length picks → left_after s 0 picks ≡ left_after s depth picks ++ left_above depth picks
  left_after-above zero picks h = sym (append-nil (left_after s 0 picks))
  left_after-above (suc depth) picks h =
      left_after-above depth picks (omega arith)
      ∙ ap (λ left. left ++ left_above depth picks) (left_after-more depth picks (omega arith))
      ∙ append_assoc (left_after s (depth + 1) picks) (left_below s depth picks (get_or picks depth 0)) (left_above depth picks)
      ∙ ap (λ n. left_after s n picks ++ left_above (suc depth) picks) (add-one depth)

  -- above a depth the same is left where the picks there are the same
  left_above-same : (depth : ℕ) (a b : List ℕ) → length a ≡ length b → take depth a ≡ take depth b → left_above depth a ≡ left_above depth b
  left_above-same zero a b size e = refl
  left_above-same (suc depth) a b size e =
      let same : take (depth + 1) a ≡ take (depth + 1) b = ap (λ n. take n a) (add-one depth) ∙ e ∙ ap (λ n. take n b) (sym (add-one depth)) in
      let front = front_less depth a b size same in
      (λ i. left_below-same depth a b size (pick_same depth a b size same i) front i ++ left_above-same depth a b size front i)

  module _ (old : List ℕ) where
    -- nothing was found from a depth on
    pub record IsBack (depth : ℕ) (picks : List ℕ) : Type 0 where
      pub within : depth ≤ length old
      pub size : length picks ≡ length old
      pub front : take depth picks ≡ take depth old
      pub left : left_after s 0 old ≡ left_above depth old

    -- nothing was looked for yet
    pub back_first : IsBack (length old) old
    back_first = record {
      within = omega arith;
      size = refl;
      front = refl;
      left = left_after-above (length old) old (omega arith) ∙ ap (λ left. left ++ left_above (length old) old) (left_after-end (length old) old (omega arith));
    }

    -- nothing was found from the depth behind one on
    pub back_at : (depth : ℕ) (picks : List ℕ) → 0 < depth → IsBack depth picks → IsBack (suc (depth - 1)) picks
    back_at depth picks h on = let last : depth ≡ suc (depth - 1) = omega arith in subst (λ n. IsBack n picks) last on

    -- the picks up to a depth are the old ones
    front_both : (depth : ℕ) (picks : List ℕ) → IsBack (suc depth) picks → take (depth + 1) picks ≡ take (depth + 1) old
    front_both depth picks on = ap (λ n. take n picks) (add-one depth) ∙ on.front ∙ ap (λ n. take n old) (sym (add-one depth))

    -- the picks below a depth are the old ones
    front_above : (depth : ℕ) (picks : List ℕ) → IsBack (suc depth) picks → take depth picks ≡ take depth old
    front_above depth picks on = front_less depth picks old on.size (front_both depth picks on)

    -- the pick at a depth is the old one
    pick_above : (depth : ℕ) (picks : List ℕ) → IsBack (suc depth) picks → get_or picks depth 0 ≡ get_or old depth 0
    pick_above depth picks on = pick_same depth picks old on.size (front_both depth picks on)

    -- the picks below a depth fit
    pub back_fits : (depth : ℕ) (picks : List ℕ) → IsBack (suc depth) picks → AreFitting s [] old → AreFitting s [] (take depth picks)
    back_fits depth picks on fit = subst (AreFitting s []) (sym (front_above depth picks on)) (fits_take (fits s) [] old depth fit)

    -- the pick at the depth is a candidate
    pub back_candidate : (depth : ℕ) (picks : List ℕ) → IsBack (suc depth) picks → AreFitting s [] old → IsCandidate s depth (get_or picks depth 0)
    back_candidate depth picks on fit =
        let within = on.within in
        subst (IsCandidate s depth) (sym (pick_above depth picks on))
        (subst (λ n. IsCandidate s n (get_or old depth 0)) (length-take-le depth old (omega arith))
        (fit_is_candidate (take depth old) (get_or old depth 0) (fits_each (fits s) [] old fit depth (omega arith))))

    module _ (depth : ℕ) (picks new : List ℕ) (next : Option ℕ) (on : IsBack (suc depth) picks) (is : IsNext s depth (get_or picks depth 0) next) (size : length new ≡ length picks) where
      -- what is left, below the pick at the depth first
      left_back : left_after s 0 old ≡ left_below s depth picks (behind next) ++ left_above depth old
      left_back =
          on.left
          ∙ ap (λ left. left ++ left_above depth old)
          (left_below-same depth old picks (sym on.size) (get_or old depth 0) (sym (front_above depth picks on))
          ∙ ap (left_below s depth picks) (sym (pick_above depth picks on))
          ∙ below-next depth picks (get_or picks depth 0) next (let within = on.within in omega (arith, on.size)) is)

      -- the next picks were found
      pub back_found : HasPicked s depth (left_below s depth picks (behind next)) picks new true → HasPicked s 0 (left_after s 0 old) old new true
      back_found p = record {
        front = refl;
        next = left_back
            ∙ ap (λ left. left ++ left_above depth old) p.next
            ∙ ap (λ left. new ∷ (left_after s depth new ++ left)) (left_above-same depth old new (sym on.size ∙ sym size) (sym (p.front ∙ front_above depth picks on)))
            ∙ ap (λ left. new ∷ left) (sym (left_after-above depth new (let within = on.within in omega (arith, on.size, size))));
        fitting = p.fitting;
        over = tt;
      }

      -- none were found at the depth
      pub back_next : HasPicked s depth (left_below s depth picks (behind next)) picks new false → IsBack depth new
      back_next p = record {
        within = let within = on.within in omega arith;
        size = size ∙ on.size;
        front = p.front ∙ front_above depth picks on;
        left = left_back ∙ ap (λ left. left ++ left_above depth old) p.over;
      }

    -- none were found at all
    pub back_over : (picks : List ℕ) → IsBack 0 picks → HasPicked s 0 (left_after s 0 old) old picks false
    back_over picks on = record { front = refl; next = tt; fitting = tt; over = on.left }

  -- what was picked from a depth on, below what is behind its first candidate
  pub picked_first : (depth : ℕ) (old new : List ℕ) (next : Option ℕ) (found : Bool) → depth < length old → IsNext s depth (bound s depth) next
      → HasPicked s depth (left_below s depth old (behind next)) old new found → HasPicked s depth (left_from s depth old) old new found
  picked_first depth old new next found h is p =
      picked_from depth old old new _ _ found (left_from-more depth old h ∙ below-next depth old (bound s depth) next (omega arith) is) refl p

  -- ---- with one pick
  module _ (depth : ℕ) (picks : List ℕ) (pick : ℕ) (h : depth < length picks) where
    -- the picks up to the one that was set
    pub take_set : take (depth + 1) (set picks depth pick) ≡ take depth picks ++ pick ∷ []
    take_set = ap (λ n. take n (set picks depth pick)) (add-one depth) ∙ take-suc-set picks depth pick h

    -- the test of the pick that was set
    pub fits_set : fits_at s (slice_get s.premises depth) (take (depth + 1) (set picks depth pick)) pick ≡ fits s (take depth picks) pick
    fits_set i = fits_at s (slice_get s.premises (sym (length-take-le depth picks (omega arith)) i)) (take_set i) pick

    -- the picks up to the one that was set fit
    pub front_set : AreFitting s [] (take depth picks) → fits s (take depth picks) pick ≡ true → AreFitting s [] (take (depth + 1) (set picks depth pick))
    front_set fit test = subst (AreFitting s []) (sym take_set) (fitting_more (fits s) [] (take depth picks) pick fit test)

    -- nothing is left with a pick that does not fit
    pub picked_not : fits s (take depth picks) pick ≡ false → HasPicked s (depth + 1) (left_at s depth picks pick) (set picks depth pick) (set picks depth pick) false
    picked_not e = record {
      front = refl;
      next = tt;
      fitting = tt;
      over = ap (λ b. cond b (all_picks (fits s) (bound s) (length (drop (depth + 1) picks)) (take depth picks ++ pick ∷ [])) []) e;
    }

    -- what is left with a pick that fits is left from the next depth on
    pub picked_with : (new : List ℕ) (found : Bool) → fits s (take depth picks) pick ≡ true
        → HasPicked s (depth + 1) (left_from s (depth + 1) (set picks depth pick)) (set picks depth pick) new found
        → HasPicked s (depth + 1) (left_at s depth picks pick) (set picks depth pick) new found
    picked_with new found e p =
        picked_from (depth + 1) (set picks depth pick) (set picks depth pick) new _ _ found
        (ap (λ b. cond b (all_picks (fits s) (bound s) (length (drop (depth + 1) picks)) (take depth picks ++ pick ∷ [])) []) e
        ∙ (λ i. all_picks (fits s) (bound s) (size_behind depth picks (set picks depth pick) (sym (length-set picks depth pick)) (depth + 1) i) (sym take_set i)))
        refl p

  -- ---- with a pick below a limit
  module _ (depth : ℕ) (old : List ℕ) (from : Option ℕ) where
    -- nothing was found up to the next candidate
    pub record IsOn (picks : List ℕ) (next : Option ℕ) : Type 0 where
      pub size : length picks ≡ length old
      pub front : take depth picks ≡ take depth old
      pub candidate : (pick : ℕ) → next ≡ Some pick → IsCandidate s depth pick
      pub left : left_below s depth old (behind from) ≡ left_below s depth old (behind next)

    module _ (picks new : List ℕ) (next : Option ℕ) (pick : ℕ) (h : depth < length old) (here : next ≡ Some pick) (on : IsOn picks next) (size : length new ≡ length old) where
      -- what is left, with this pick first
      left_here : left_below s depth old (behind from) ≡ left_at s depth picks pick ++ left_below s depth old pick
      left_here =
          on.left ∙ ap (λ o. left_below s depth old (behind o)) here
          ∙ ap (λ left. left ++ left_below s depth old pick) (left_at-same depth old picks (sym on.size) pick (sym on.front))

      -- the new picks are the old ones below the depth
      front_here : take (depth + 1) new ≡ take (depth + 1) (set picks depth pick) → take depth new ≡ take depth old
      front_here e = front_less depth new (set picks depth pick) (omega (arith, size, on.size, length-set picks depth pick)) e ∙ take-set picks depth pick ∙ on.front

      -- this pick was found
      pub on_found : HasPicked s (depth + 1) (left_at s depth picks pick) (set picks depth pick) new true → HasPicked s depth (left_below s depth old (behind from)) old new true
      on_found p =
          let sized : length new ≡ length (set picks depth pick) = omega (arith, size, on.size, length-set picks depth pick) in
          let set_here : get_or new depth 0 ≡ pick = pick_same depth new (set picks depth pick) sized p.front ∙ get_or-set_same picks depth pick 0 (omega (arith, on.size)) in record {
            front = front_here p.front;
            next = left_here
                ∙ ap (λ left. left ++ left_below s depth old pick) p.next
                ∙ ap (λ left. new ∷ (left_after s (depth + 1) new ++ left))
                (left_below-same depth old new (sym size) pick (sym (front_here p.front)) ∙ ap (left_below s depth new) (sym set_here))
                ∙ ap (λ left. new ∷ left) (sym (left_after-more depth new (omega arith)));
            fitting = p.fitting;
            over = tt;
          }

      -- this pick was not found, and the next one is looked at
      pub on_next : (older : Option ℕ) → HasPicked s (depth + 1) (left_at s depth picks pick) (set picks depth pick) new false → IsNext s depth pick older → IsOn new older
      on_next older p is = record {
        size = size;
        front = front_here p.front;
        candidate = λ n e. (MatchOption-at_some _ _ n e is.found).1;
        left = left_here ∙ ap (λ left. left ++ left_below s depth old pick) p.over ∙ below-next depth old pick older (omega arith) is;
      }

      -- the next one is smaller
      pub on_falls : (older : Option ℕ) → IsNext s depth pick older → behind older < behind next
      on_falls older is = subst (λ o. behind older < behind o) (sym here) (let most = behind_most depth pick older is in omega arith)

    -- nothing is left where there is no next candidate
    pub on_over : (picks : List ℕ) (next : Option ℕ) → next ≡ None → IsOn picks next → HasPicked s depth (left_below s depth old (behind from)) old picks false
    on_over picks next none on = record {
      front = on.front;
      next = tt;
      fitting = tt;
      over = on.left ∙ ap (λ o. left_below s depth old (behind o)) none;
    }
