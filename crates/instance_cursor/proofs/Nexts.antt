-- The greatest candidate below a number, at a premise and at a variable in no premise.
use Rattle.std.proofs.Common.{◌≡◌, ℕ, zero, suc, ◌-◌, ◌<◌, ◌≤◌, ◌==◌, nat_lt, Bool, true, false, ◌&&◌, List, [], ◌∷◌, map, length, take, Option, Some, None, slice_get, refl, sym, ap, subst, ◌∙◌, arith}
use Rattle.std.specs.Option.{option_map, option_and_then, IfSome, SomeIff}
use Rattle.std.proofs.lemmas.Option.{slice_get-map, slice_get_within}
use Rattle.std.proofs.lemmas.List.{length-map, length-take, take_all}
use Rattle.std.proofs.lemmas.Bool.Decides.{nat_tests}
use Rattle.text_core.proofs.Laws.{number_same}
use Rattle.logic_core.specs.declared.form.Atom.{Atom}
use Rattle.fact_store.specs.Chains.{or_first, latest}
use Rattle.fact_store.specs.Facts.{Fact, newest_of, older_of}
use Rattle.instance_cursor.specs.Facts.{signed_number}
use Rattle.instance_cursor.specs.Fitting.{Searched, args_or_none, args_at, are_at, is_fact_at, fits_at, bound, bound_at, CandidateAt, IsCandidate, behind, IsNext}

-- a number has the key, and no later one has it
record IsLast (key : ℕ) (keys : List ℕ) (last : Option ℕ) : Type 0 where
  found : (n : ℕ) → last ≡ Some n → slice_get keys n ≡ Some key
  later : (n : ℕ) → behind last ≤ n → slice_get keys n ≡ Some key → ⊥

-- an item is the wanted one or it is not
differs : (k key : ℕ) → (k == key) ≡ false → Some k ≡ Some key → ⊥
differs k key test e = let same : k ≡ key = cc in grind (arith, nat_tests)

-- the last number with one more key in front
last_cons : (key k : ℕ) (keys : List ℕ) (wanted : Bool) (last : Option ℕ) → (k == key) ≡ wanted → IsLast key keys last → IsLast key (k ∷ keys) (or_first wanted last)
last_cons key k keys true None test h = record {
  found = λ n e. subst (λ m. slice_get (k ∷ keys) m ≡ Some key) (let at : 0 ≡ n = cc in at) (ap Some (number_same k key test));
  later = past;
}
  where
    past : (n : ℕ) → 1 ≤ n → slice_get (k ∷ keys) n ≡ Some key → ⊥
    past zero low e = omega arith
    past (suc n) low e = h.later n (omega arith) e
last_cons key k keys false None test h = record { found = λ n e. absurd (cc); later = past }
  where
    past : (n : ℕ) → 0 ≤ n → slice_get (k ∷ keys) n ≡ Some key → ⊥
    past zero low e = differs k key test e
    past (suc n) low e = h.later n (omega arith) e
last_cons key k keys wanted (Some p) test h = record {
  found = λ n e. subst (λ m. slice_get (k ∷ keys) m ≡ Some key) (let at : suc p ≡ n = cc in at) (h.found p refl);
  later = past;
}
  where
    past : (n : ℕ) → suc (suc p) ≤ n → slice_get (k ∷ keys) n ≡ Some key → ⊥
    past zero low e = omega arith
    past (suc n) low e = h.later n (omega arith) e

-- the greatest number of a key
latest-is_last : (key : ℕ) (keys : List ℕ) → IsLast key keys (latest key keys)
unfolding latest
latest-is_last key [] = record { found = λ n e. absurd (cc); later = λ n low e. absurd (cc) }
latest-is_last key (k ∷ keys) = last_cons key k keys (k == key) (latest key keys) refl (latest-is_last key keys)

-- an item of a front
get_take : {X : Type 0} (xs : List X) (limit n : ℕ) → n < limit → slice_get (take limit xs) n ≡ slice_get xs n
get_take xs zero n h = absurd (omega arith)
get_take [] (suc limit) n h = refl
get_take (x ∷ xs) (suc limit) zero h = refl
get_take (x ∷ xs) (suc limit) (suc n) h = get_take xs limit n (omega arith)

module _ (s : Searched) (depth limit : ℕ) where
  module _ (atom : Atom) (here : slice_get s.premises depth ≡ Some atom) where
    -- the symbols of the facts below the limit
    abbrev symbols : List ℕ
    symbols = map (λ fact. fact.signed) (take limit s.facts)

    -- a candidate below the limit is one of the symbols
    symbol_is : (pick : ℕ) → pick < limit → slice_get symbols pick ≡ option_map (λ fact. fact.signed) (slice_get s.facts pick)
    symbol_is pick h = slice_get-map (λ (fact : Fact). fact.signed) (take limit s.facts) pick ∙ ap (option_map (λ fact. fact.signed)) (get_take s.facts limit pick h)

    -- a number of a symbol is below the limit
    within : (pick : ℕ) → slice_get symbols pick ≡ Some (signed_number atom) → pick < limit
    within pick e =
        let low = slice_get_within symbols pick (signed_number atom) e in
        omega (arith, low, length-map (take limit s.facts) (λ (fact : Fact). fact.signed), length-take limit s.facts)

    -- a candidate at the depth
    candidate : (pick : ℕ) → slice_get symbols pick ≡ Some (signed_number atom) → IsCandidate s depth pick
    candidate pick e = subst (λ o. CandidateAt s o pick) (sym here) (sym (symbol_is pick (within pick e)) ∙ e)

    -- the greatest number of the symbol is the next candidate
    next_last : (next : Option ℕ) → IsLast (signed_number atom) symbols next → IsNext s depth limit next
    next_last next h = record {
      found = each next h.found;
      skipped = λ pick low high is. h.later pick low (symbol_is pick high ∙ subst (λ o. CandidateAt s o pick) here is);
    }
      where
        each : (o : Option ℕ) → ((n : ℕ) → o ≡ Some n → slice_get symbols n ≡ Some (signed_number atom)) → IfSome o (λ pick. (pick < limit) × IsCandidate s depth pick)
        each None f = tt
        each (Some n) f = (within n (f n refl), candidate n (f n refl))

    -- the newest of the facts below the limit is the next candidate
    pub next_fact : (next : Option ℕ) → next ≡ newest_of (signed_number atom) (take limit s.facts) → IsNext s depth limit next
    next_fact next e = subst (IsNext s depth limit) (sym e) (next_last _ (latest-is_last (signed_number atom) symbols))

  -- the element below the limit is the next candidate
  pub next_element : (next : Option ℕ) → slice_get s.premises depth ≡ None → limit ≤ s.elements → SomeIff next (1 ≤ limit) (limit - 1) → IsNext s depth limit next
  next_element None here most h = record { found = tt; skipped = λ pick low high is. h (omega arith) }
  next_element (Some pick) here most h =
      let least = h.0 in let value = h.1 in record {
        found = (omega arith, subst (λ o. CandidateAt s o pick) (sym here) (omega arith));
        skipped = λ p low high is. omega (arith, low, high, least, value);
      }

module _ (s : Searched) (depth : ℕ) where
  -- the newest fact with the symbol of a premise
  pub newest_fact : (atom : Atom) (next : Option ℕ) → slice_get s.premises depth ≡ Some atom → next ≡ newest_of (signed_number atom) s.facts → IsNext s depth (bound s depth) next
  newest_fact atom next here e =
      subst (λ o. IsNext s depth (bound_at s o) next) (sym here)
      (next_fact s depth (length s.facts) atom here next (e ∙ ap (newest_of (signed_number atom)) (sym (take_all (length s.facts) s.facts (omega arith)))))

  -- the last element
  pub newest_element : (next : Option ℕ) → slice_get s.premises depth ≡ None → SomeIff next (1 ≤ s.elements) (s.elements - 1) → IsNext s depth (bound s depth) next
  newest_element next here h =
      subst (λ o. IsNext s depth (bound_at s o) next) (sym here) (next_element s depth s.elements next here (omega arith) h)

  -- the newest fact before one with the symbol of a premise
  pub older_fact : (atom : Atom) (pick : ℕ) (next : Option ℕ) → slice_get s.premises depth ≡ Some atom → IsCandidate s depth pick → next ≡ older_of pick s.facts → IsNext s depth pick next
  older_fact atom pick next here is e =
      next_fact s depth pick atom here next (e ∙ same (slice_get s.facts pick) (subst (λ o. CandidateAt s o pick) here is))
    where
      same : (o : Option Fact) → option_map (λ fact. fact.signed) o ≡ Some (signed_number atom)
          → option_and_then (λ f. newest_of f.signed (take pick s.facts)) o ≡ newest_of (signed_number atom) (take pick s.facts)
      same None e = absurd (cc)
      same (Some fact) e = let symbol : fact.signed ≡ signed_number atom = cc in ap (λ n. newest_of n (take pick s.facts)) symbol

  -- the element before one
  pub older_element : (pick : ℕ) (next : Option ℕ) → slice_get s.premises depth ≡ None → IsCandidate s depth pick → SomeIff next (1 ≤ pick) (pick - 1) → IsNext s depth pick next
  older_element pick next here is h =
      let low : pick < s.elements = subst (λ o. CandidateAt s o pick) here is in next_element s depth pick next here (omega arith) h

  -- the test of a candidate at a premise
  pub fits_fact : (atom : Atom) (picks : List ℕ) (last : ℕ) → slice_get s.premises depth ≡ Some atom → IsCandidate s depth last
      → are_at s picks atom.args (args_at s.facts last) ≡ fits_at s (slice_get s.premises depth) picks last
  fits_fact atom picks last here is =
      by (slice_get s.facts last) (subst (λ o. CandidateAt s o last) here is) ∙ ap (λ o. fits_at s o picks last) (sym here)
    where
      by : (o : Option Fact) → option_map (λ fact. fact.signed) o ≡ Some (signed_number atom) → are_at s picks atom.args (args_or_none o) ≡ is_fact_at s picks atom o
      by None e = absurd (cc)
      by (Some fact) e =
          let symbol : fact.signed ≡ signed_number atom = cc in
          let test : (fact.signed == signed_number atom) ≡ true = grind (arith, nat_tests) in
          ap (λ b. b && are_at s picks atom.args fact.args) (sym test)

  -- the test of a candidate behind the premises
  pub fits_element : (picks : List ℕ) (last : ℕ) → slice_get s.premises depth ≡ None → IsCandidate s depth last → true ≡ fits_at s (slice_get s.premises depth) picks last
  fits_element picks last here is =
      let low : last < s.elements = subst (λ o. CandidateAt s o last) here is in
      let test : nat_lt last s.elements ≡ true = grind (arith, nat_tests) in
      sym test ∙ ap (λ o. fits_at s o picks last) (sym here)
