-- For each candidate there is one that suits the same rules, in which the constants are in order.
use Rattle.std.proofs.Common.{◌≡◌, ℕ, zero, suc, ◌<◌, ◌≤◌, ◌==◌, Bool, true, false, List, refl, sym, ◌∙◌, ap, subst, arith, eq-eqb}
use Rattle.std.specs.Prelude.{nat_lt}
use Rattle.std.proofs.lemmas.Bool.{ltb-true}
use Rattle.text_core.proofs.Laws.{number_same}
use Rattle.model_search.specs.Candidates.{Candidate}
use Rattle.model_search.specs.Orders.{IsEarlier, Follows, IsOrdered, AreFormedRules, IsFair}
use Rattle.model_search.specs.Rules.{IsPlacedBelow, SuitsRules}
use Rattle.model_search.specs.Sheets.{Drawn, IsSuited, GoesIf}
use Rattle.model_search.specs.declared.rule.Rule.{Rule}
use Rattle.model_search.proofs.Images.{image, suits_image}
use Rattle.model_search.proofs.Swapped.{exchanged, exchanged_first, exchanged_other, exchanged_twice, exchanged_within}

-- the first constants are in order, and stand for the first elements
pub record Arranged (size : ℕ) (rules : List Rule) (count : ℕ) : Type 0 where
  pub candidate : Candidate
  pub suits : SuitsRules size rules candidate
  pub named : ℕ
  pub few : named ≤ count
  pub below : (constant : ℕ) → constant < count → candidate.place constant < named
  pub filled : (element : ℕ) → element < named → IsEarlier candidate count element
  pub ordered : IsOrdered count candidate

-- one more constant
earlier_more : (c : Candidate) (count element : ℕ) → IsEarlier c count element → IsEarlier c (suc count) element
earlier_more c count element h = record { earlier = h.earlier; before = (let b = h.before in omega (arith, b)); stands = h.stands }

-- the property of each earlier one and of this one
each_below : (P : ℕ → Type 0) (count : ℕ) → ((k : ℕ) → k < count → P k) → P count → (k : ℕ) → k < suc count → P k
each_below P count before here k h = by (k == count) refl
  where
    by : (b : Bool) → (k == count) ≡ b → P k
    by true e = subst P (sym (number_same k count e)) here
    by false e = before k (let other : k ≡ count → ⊥ = λ same. (let t : true ≡ false = sym (eq-eqb k count same) ∙ e in absurd (cc)) in omega (arith, h, other))

module _ (size constants : ℕ) (rules : List Rule) (formed : AreFormedRules constants rules) where
  -- where the next constant stands for an element that has a name
  kept : (count : ℕ) → (a : Arranged size rules count) → a.candidate.place count < a.named → Arranged size rules (suc count)
  kept count a old = let c = a.candidate in record {
    candidate = c;
    suits = a.suits;
    named = a.named;
    few = (let few = a.few in omega (arith, few));
    below = each_below (λ k. c.place k < a.named) count a.below old;
    filled = λ element h. earlier_more c count element (a.filled element h);
    ordered = each_below (λ k. Follows k c) count a.ordered
        (λ element e. a.filled element (omega (arith, old, e)));
  }

  -- where it stands for another one, which gets the next name
  renamed : (count : ℕ) → (a : Arranged size rules count) → a.named ≤ a.candidate.place count → Arranged size rules (suc count)
  renamed count a new =
      let c = a.candidate in
      let m = a.named in
      let p = c.place count in
      let f : ℕ → ℕ = exchanged p m in
      let inside : p < c.size = subst (λ n. p < n) (sym a.suits.below.size_is) (a.suits.below.placed count) in
      let d : Candidate = image f (exchanged_twice p m) c in
      let here : f p ≡ m = exchanged_first p m in
      let same : (x : ℕ) → x < m → f x ≡ x = λ x h. exchanged_other p m x (λ e. absurd (omega (arith, h, e, new))) (λ e. absurd (omega (arith, h, e))) in
      let moved : (element : ℕ) → element < m → IsEarlier d count element = λ element h.
      let old = a.filled element h in record {
        earlier = old.earlier;
        before = old.before;
        stands = ap f old.stands ∙ same element h;
      } in
      record {
        candidate = d;
        suits = suits_image f (exchanged_twice p m) c
            (λ x h. exchanged_within p m c.size x inside (omega (arith, inside, new)) h) size constants rules formed a.suits;
        named = suc m;
        few = (let few = a.few in omega (arith, few));
        below = each_below (λ k. f (c.place k) < suc m) count
            (λ k h. let low = a.below k h in subst (λ x. x < suc m) (sym (same (c.place k) low)) (omega (arith, low)))
            (subst (λ x. x < suc m) (sym here) (omega arith));
        filled = each_below (λ element. IsEarlier d (suc count) element) m
            (λ element h. earlier_more d count element (moved element h))
            (record { earlier = count; before = omega arith; stands = here });
        ordered = each_below (λ k. Follows k d) count
            (λ k h element e.
            let low = a.below k h in
            let old = a.ordered k h element (sym (same (c.place k) low) ∙ e) in
            record {
              earlier = old.earlier;
              before = old.before;
              stands = ap f old.stands ∙ same element (let e2 : c.place k ≡ suc element = sym (same (c.place k) low) ∙ e in omega (arith, low, e2));
            })
            (λ element e. moved element (let e2 : m ≡ suc element = sym here ∙ e in omega (arith, e2)));
      }

  arranged_next : (count : ℕ) → Arranged size rules count → Arranged size rules (suc count)
  arranged_next count a = by (nat_lt (a.candidate.place count) a.named) refl
    where
      by : (b : Bool) → nat_lt (a.candidate.place count) a.named ≡ b → Arranged size rules (suc count)
      by true e = kept count a (ltb-true (a.candidate.place count) a.named e)
      by false e = renamed count a (grind (arith, e))

  pub arranged : (c : Candidate) → SuitsRules size rules c → (count : ℕ) → Arranged size rules count
  arranged c suits zero = record {
    candidate = c;
    suits = suits;
    named = 0;
    few = omega arith;
    below = λ k h. absurd (omega (arith, h));
    filled = λ element h. absurd (omega (arith, h));
    ordered = λ k h. absurd (omega (arith, h));
  }
  arranged c suits (suc count) = arranged_next count (arranged c suits count)

-- clauses that are true of each candidate are true of one
pub placed_fair : (size : ℕ) (rules : List Rule) (s : Drawn) → ((c : Candidate) → IsPlacedBelow size c → IsSuited c s) → IsFair size rules s
placed_fair size rules s all c suits = record { candidate = c; suits = suits; suited = all c suits.below }

pub fair_next : (size : ℕ) (rules : List Rule) (s t : Drawn) → GoesIf (SuitsRules size rules) s t → IsFair size rules s → IsFair size rules t
fair_next size rules s t goes fair c suits = let h = fair c suits in record {
  candidate = h.candidate;
  suits = h.suits;
  suited = goes h.candidate h.suits h.suited;
}
