-- A walk through the chain of a fact's bucket meets every number that the fact may have.
use Rattle.std.proofs.Common.{◌≡◌, ℕ, suc, zero, ◌<◌, ◌≤◌, ◌==◌, Bool, true, false, ◌||◌, List, [], ◌∷◌, map, length, take, get_or, slice_get, Option, Some, None, is_some, refl, sym, ap, subst, ◌∙◌, arith, nat_eq}
use Rattle.std.specs.List.{list_any}
use Rattle.std.specs.Cmp.Lexicographic.{pointwise, bytes_decides}
use Rattle.std.proofs.lemmas.Bool.Decides.{nat_tests}
use Rattle.std.proofs.lemmas.List.{length-map, length-take-le, get_or-map, get_or-take, take-map, take-take}
use Rattle.std.proofs.lemmas.Option.{slice_get-get_or}
use Rattle.text_core.proofs.Laws.{and_both, and_true}
use Rattle.fact_store.specs.declared.entry.Entry.{Entry}
use Rattle.fact_store.specs.Entries.{fact_in, facts_in, bucket_of}
use Rattle.fact_store.proofs.Chained.{latest-below, latest-is}
use Rattle.fact_store.specs.Chains.{or_first, latest}
use Rattle.fact_store.specs.Facts.{Fact, is_fact, stands, IsNumberOf}

-- the number after one, or 0 where there is none
abbrev pub after : Option ℕ → ℕ
after None = 0
after (Some number) = suc number

module _ {A : Type 0} (test : A → Bool) (key : A → ℕ) (k : ℕ) (in_chain : (x : A) → test x ≡ true → key x ≡ k) where
  -- an item with another key does not pass
  fails : (x : A) (b : Bool) → test x ≡ b → (key x == k) ≡ false → b ≡ false
  fails x true t e = let same = in_chain x t in grind (arith, nat_tests)
  fails x false t e = refl

  -- the items past the last number of the key, one more in front
  step : (x : A) (xs : List A) (b : Bool) (o : Option ℕ) → (key x == k) ≡ b → list_any test xs ≡ list_any test (take (after o) xs)
      → list_any test (x ∷ xs) ≡ list_any test (take (after (or_first b o)) (x ∷ xs))
  step x xs b (Some number) e rest = ap (λ r. test x || r) rest
  step x xs true None e rest = ap (λ r. test x || r) rest
  step x xs false None e rest = ap (λ b. b || list_any test xs) (fails x (test x) refl e) ∙ rest

  -- the items past the last number of the key do not pass
  pub to_latest : (xs : List A) → list_any test xs ≡ list_any test (take (after (latest k (map key xs))) xs)
  unfolding latest
  to_latest [] = refl
  to_latest (x ∷ xs) = step x xs (key x == k) (latest k (map key xs)) refl (to_latest xs)

  -- an item that does not pass may be left out
  pub past_failed : (xs : List A) (number : ℕ) (d : A) → number < length xs → test (get_or xs number d) ≡ false
      → list_any test (take (suc number) xs) ≡ list_any test (take number xs)
  past_failed [] number d h e = absurd (omega arith)
  past_failed (x ∷ xs) zero d h e = ap (λ b. b || false) e
  past_failed (x ∷ xs) (suc number) d h e = ap (λ b. test x || b) (past_failed xs number d (omega arith) e)

  -- what is after a number below a bound is at most the bound
  at_most : (o : Option ℕ) (n : ℕ) → ((p : ℕ) → o ≡ Some p → p < n) → after o ≤ n
  at_most None n h = omega arith
  at_most (Some p) n h = h p refl

  -- and so may those between it and the one before it in the chain
  pub to_older : (xs : List A) (number : ℕ) (d : A) → number < length xs → test (get_or xs number d) ≡ false
      → list_any test (take (suc number) xs) ≡ list_any test (take (after (latest k (map key (take number xs)))) xs)
  to_older xs number d h e =
      let o = latest k (map key (take number xs)) in
      let near : after o ≤ length (map key (take number xs)) = at_most o _ (latest-below k (map key (take number xs))) in
      let count : length (map key (take number xs)) ≡ number = length-map (take number xs) key ∙ length-take-le number xs (omega arith) in
      past_failed xs number d h e ∙ to_latest (take number xs) ∙ ap (list_any test) (take-take (after o) number xs (omega (arith, near, count)))

-- a fact that passes the test is the one with this symbol and these elements
pub fact_is : (signed : ℕ) (args : List ℕ) (fact : Fact) → is_fact signed args fact ≡ true → fact ≡ record { signed = signed; args = args }
fact_is signed args fact e =
    let parts = and_both (signed == fact.signed) (pointwise nat_eq args fact.args) e in
    let symbol : fact.signed ≡ signed = grind (arith, nat_tests, parts.0) in
    let elements = sym ((bytes_decides args fact.args).0 parts.1) in
    λ i. record { signed = symbol i; args = elements i }

-- ---- the walk for a fact

module _ (keys : List ℕ) (width : ℕ) (args : List ℕ) (entries : List Entry) (signed : ℕ) (sought : List ℕ) where
  -- the bucket of the fact that is sought
  abbrev chain_key : ℕ
  chain_key = bucket_of width (record { signed = signed; args = sought })

  -- no fact after the one that is looked at is the one that is sought, and the one looked at is in the chain of its bucket
  pub record IsAt (at : Option ℕ) : Type 0 where
    pub there : (number : ℕ) → at ≡ Some number → number < length entries
    pub chain : (number : ℕ) → at ≡ Some number → get_or keys number 0 ≡ chain_key
    pub rest : stands signed sought (facts_in args entries) ≡ stands signed sought (take (after at) (facts_in args entries))

  module _ (is : keys ≡ map (bucket_of width) (facts_in args entries)) where
    -- the fact that is sought is in the chain
    in_chain : (f : Fact) → is_fact signed sought f ≡ true → bucket_of width f ≡ chain_key
    in_chain f e = ap (bucket_of width) (fact_is signed sought f e)

    -- there are as many keys as entries
    count : length keys ≡ length entries
    count = ap length is ∙ length-map (facts_in args entries) (bucket_of width) ∙ length-map entries (fact_in args)

    -- a walk starts at the newest of the chain
    pub walk_start : (at : Option ℕ) → at ≡ latest chain_key keys → IsAt at
    walk_start at e = record {
      there = λ number some. subst (λ n. number < n) count (latest-below chain_key keys number (sym e ∙ some));
      chain = λ number some. latest-is chain_key keys number (sym e ∙ some);
      rest = to_latest (is_fact signed sought) (bucket_of width) chain_key in_chain (facts_in args entries)
          ∙ ap (λ o. stands signed sought (take (after o) (facts_in args entries))) (ap (latest chain_key) (sym is) ∙ sym e);
    }

    module _ (at : Option ℕ) (number : ℕ) (d : Entry) (here : at ≡ Some number) (walk : IsAt at) where
      -- the one looked at is there
      below : number < length entries
      below = walk.there number here

      -- its fact is that of its entry
      fact_here : get_or (facts_in args entries) number (fact_in args d) ≡ fact_in args (get_or entries number d)
      fact_here = get_or-map (fact_in args) entries number d (fact_in args d) below

      -- the fact that is sought is looked for up to it
      up_to_here : stands signed sought (facts_in args entries) ≡ stands signed sought (take (suc number) (facts_in args entries))
      up_to_here = walk.rest ∙ ap (λ o. stands signed sought (take (after o) (facts_in args entries))) here

      module _ (next : Option ℕ) (older : next ≡ latest (get_or keys number 0) (take number keys)) where
        -- the next one is the newest of the chain before it
        next_is : next ≡ latest chain_key (take number keys)
        next_is = older ∙ ap (λ k. latest k (take number keys)) (walk.chain number here)

        -- the next one is before it
        before : (p : ℕ) → next ≡ Some p → p < number
        before p some = subst (λ n. p < n) (length-take-le number keys (omega (arith, count, below))) (latest-below chain_key (take number keys) p (sym next_is ∙ some))

        -- a walk comes nearer to the front
        pub walk_falls : after next < after at
        walk_falls = subst (λ o. after next < after o) (sym here) (falls next before)
          where
            falls : (o : Option ℕ) → ((p : ℕ) → o ≡ Some p → p < number) → after o < suc number
            falls None h = omega arith
            falls (Some p) h = let q = h p refl in omega arith

        -- a walk goes on where the fact is another one
        pub walk_on : is_fact signed sought (fact_in args (get_or entries number d)) ≡ false → IsAt next
        walk_on other = record {
          there = λ p some. let q = before p some in omega (arith, below);
          chain = λ p some. sym (get_or-take number keys p 0 (before p some)) ∙ latest-is chain_key (take number keys) p (sym next_is ∙ some);
          rest = up_to_here
              ∙ to_older (is_fact signed sought) (bucket_of width) chain_key in_chain (facts_in args entries) number (fact_in args d) (omega (arith, length-map entries (fact_in args), below)) (ap (is_fact signed sought) fact_here ∙ other)
              ∙ ap (λ o. stands signed sought (take (after o) (facts_in args entries)))
              (ap (latest chain_key) (sym (take-map (bucket_of width) number (facts_in args entries)) ∙ ap (take number) (sym is)) ∙ sym next_is);
        }

      -- a walk that meets the fact has found its number
      pub walk_found : is_fact signed sought (fact_in args (get_or entries number d)) ≡ true → IsNumberOf signed sought (facts_in args entries) (Some number)
      walk_found same =
          let inside : number < length (facts_in args entries) = omega (arith, length-map entries (fact_in args), below) in
          slice_get-get_or (facts_in args entries) number (fact_in args d) inside
          ∙ ap Some (fact_is signed sought _ (ap (is_fact signed sought) fact_here ∙ same))

-- a fact is the one with its symbol and its elements
itself : (signed : ℕ) (args : List ℕ) → is_fact signed args (record { signed = signed; args = args }) ≡ true
itself signed args = and_true (signed == signed) (pointwise nat_eq args args) (grind (arith, nat_tests)) ((bytes_decides args args).1 refl)

-- a test that passes, behind another one
or_last : (a b : Bool) → b ≡ true → (a || b) ≡ true
or_last true b e = refl
or_last false b e = e

-- a fact stands in the list where it has a number
has_number : (signed : ℕ) (args : List ℕ) (facts : List Fact) (number : ℕ) → slice_get facts number ≡ Some (record { signed = signed; args = args }) → stands signed args facts ≡ true
has_number signed args [] number e = absurd cc
has_number signed args (f ∷ facts) zero e =
    let same : f ≡ record { signed = signed; args = args } = cc in
    ap (λ g. is_fact signed args g || stands signed args facts) same ∙ ap (λ b. b || stands signed args facts) (itself signed args)
has_number signed args (f ∷ facts) (suc number) e = or_last (is_fact signed args f) _ (has_number signed args facts number e)

-- whether there is a number tells whether the fact stands in the list
pub number_stands : (signed : ℕ) (args : List ℕ) (facts : List Fact) (number : Option ℕ) → IsNumberOf signed args facts number → is_some number ≡ stands signed args facts
number_stands signed args facts None e = sym e
number_stands signed args facts (Some number) e = sym (has_number signed args facts number e)
