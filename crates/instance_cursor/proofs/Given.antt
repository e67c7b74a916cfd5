-- The instances that there are for a form: each one once, and no other.
use Rattle.std.proofs.Common.{◌≡◌, ℕ, ◌+◌, ◌<◌, nat_eq, true, false, List, [], ◌∷◌, map, length, Option, Some, None, slice_get, sym, ap, subst, ◌∙◌, inl, inr, arith}
use Rattle.std.specs.List.{AllByRecursion, IsDistinct}
use Rattle.std.specs.Cmp.Lexicographic.{pointwise, bytes_decides}
use Rattle.std.proofs.lemmas.List.{length-map}
use Rattle.std.proofs.lemmas.Option.{slice_get-map, slice_get_within}
use Rattle.text_core.specs.Lists.{IsAmong}
use Rattle.text_core.proofs.Laws.{each_mapped, not_passes}
use Rattle.logic_core.specs.Forms.{AtomIsBelow}
use Rattle.logic_core.specs.declared.form.Atom.{Atom}
use Rattle.logic_core.specs.declared.form.Form.{Form}
use Rattle.fact_store.specs.Facts.{Fact, AreDistinctFacts}
use Rattle.instance_cursor.specs.Facts.{signed_number}
use Rattle.instance_cursor.specs.Instances.{IsInstanceOver}
use Rattle.instance_cursor.specs.Origins.{free_variables}
use Rattle.instance_cursor.specs.Picks.{all_picks}
use Rattle.instance_cursor.specs.Fitting.{Searched, fits, bound, bound_at, instance_at, CandidateAt}
use Rattle.instance_cursor.specs.Cursors.{searched}
use Rattle.instance_cursor.proofs.Picked.{AreApart, IsLonger, each_all, among_all, all_apart}
use Rattle.instance_cursor.proofs.Depths.{fit_is_candidate}
use Rattle.instance_cursor.proofs.Matched.{Agree, length-instance, instance_agrees, instance_known, instance_is, agreeing_fit, picks_for, agreeing_stand, one_picks}

-- the image of a member is among the images
among_map : {X Y : Type 0} (f : X → Y) (xs : List X) (x : X) → IsAmong x xs → IsAmong (f x) (map f xs)
among_map f [] x h = absurd h
among_map f (y ∷ xs) x (inl e) = inl (ap f e)
among_map f (y ∷ xs) x (inr h) = inr (among_map f xs x h)

-- lists that differ fail the test
lists_differ : (a b : List ℕ) → (a ≡ b → ⊥) → pointwise nat_eq a b ≡ false
lists_differ a b h = not_passes (pointwise nat_eq a b) (λ e. h ((bytes_decides a b).0 e))

-- images of different members differ, where a member follows from its image
images_distinct : {X : Type 0} (P : X → Type 0) (f : X → List ℕ) → ((a b : X) → P a → P b → f a ≡ f b → a ≡ b)
    → (xs : List X) → AllByRecursion P xs → AreApart xs → IsDistinct (pointwise nat_eq) (map f xs)
unfolding IsDistinct
images_distinct P f same [] each apart = tt
images_distinct P f same (x ∷ xs) each apart = (
  each_mapped (λ ys. pointwise nat_eq (f x) ys ≡ false) f (λ y p differs. lists_differ (f x) (f y) (λ e. differs (same x y each.0 p e))) xs each.1 apart.0,
  images_distinct P f same xs each.1 apart.1,
)

module _ (form : Form) (facts : List Fact) (elements : ℕ) where
  -- what is gone through
  abbrev s : Searched
  s = searched form facts elements

  -- a pick that fits is below the bound of its depth
  fit_below : (front : List ℕ) (pick : ℕ) → fits s front pick ≡ true → pick < bound s (length front)
  fit_below front pick e = by (slice_get form.premises (length front)) (fit_is_candidate s front pick e)
    where
      by : (o : Option Atom) → CandidateAt s o pick → pick < bound_at s o
      by None low = low
      by (Some atom) e =
          let there = slice_get_within (map (λ fact. fact.signed) facts) pick (signed_number atom) (slice_get-map (λ (fact : Fact). fact.signed) facts pick ∙ e) in
          omega (arith, there, length-map facts (λ (fact : Fact). fact.signed))

  module _ (below : AllByRecursion (AtomIsBelow form.universals elements) form.premises) (count : ℕ)
      (all_depths : count ≡ length form.premises + length (free_variables form.premises form.universals)) where
    -- the lists of picks for all depths
    abbrev left : List (List ℕ)
    left = all_picks (fits s) (bound s) count []

    -- picks for all depths agree with the instance at them
    agrees : (picks : List ℕ) → IsLonger (fits s) (bound s) count [] picks → Agree form.premises form.universals elements facts picks (instance_at s picks)
    agrees picks h =
        subst (λ ps. Agree form.premises form.universals elements facts ps (instance_at s ps)) (sym h.is)
        (instance_agrees form.premises form.universals elements facts below h.more h.fit (h.count_is ∙ all_depths))

    -- the instance at picks for all depths is one
    is_instance : (picks : List ℕ) → IsLonger (fits s) (bound s) count [] picks → IsInstanceOver form facts elements (instance_at s picks)
    is_instance picks h = record {
      length_is = length-instance form.premises form.universals elements facts picks;
      known = subst (λ ps. AllByRecursion (λ e. e < elements) (instance_at s ps)) (sym h.is)
          (instance_known form.premises form.universals elements facts below h.more h.fit (h.count_is ∙ all_depths));
      premises = agreeing_stand form.premises form.universals elements facts picks (instance_at s picks) (agrees picks h);
    }

    -- each that is given is an instance
    pub each_given : AllByRecursion (IsInstanceOver form facts elements) (map (instance_at s) left)
    each_given =
        let each = each_all (fits s) (bound s) count [] in each_mapped (IsInstanceOver form facts elements) (instance_at s) (λ picks h _. is_instance picks h) left each each

    -- each instance is given
    pub all_given : (args : List ℕ) → IsInstanceOver form facts elements args → IsAmong args (map (instance_at s) left)
    all_given args h =
        let picks = picks_for form.premises form.universals elements facts args h.premises in
        let fit = agreeing_fit form.premises form.universals elements facts below args picks.0 picks.1 h.length_is h.known in
        subst (λ xs. IsAmong xs (map (instance_at s) left)) (instance_is form.premises form.universals elements facts below args picks.0 picks.1 h.length_is)
        (among_map (instance_at s) left picks.0 (among_all (fits s) (bound s) fit_below count [] picks.0 (picks.1.count ∙ sym all_depths) fit))

    -- no instance is given twice
    pub given_once : AreDistinctFacts facts → IsDistinct (pointwise nat_eq) (map (instance_at s) left)
    given_once distinct =
        images_distinct (IsLonger (fits s) (bound s) count []) (instance_at s)
        (λ a b p q e. one_picks form.premises form.universals elements facts distinct (instance_at s a) a b (agrees a p)
        (subst (Agree form.premises form.universals elements facts b) (sym e) (agrees b q)))
        left (each_all (fits s) (bound s) count []) (all_apart (fits s) (bound s) count [])
