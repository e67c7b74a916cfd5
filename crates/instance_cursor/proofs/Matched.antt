-- Picks that fit at all depths and the instance at them determine one another.
use Rattle.std.proofs.Common.{◌≡◌, ℕ, zero, suc, ◌+◌, ◌<◌, ◌≤◌, ◌==◌, inl, inr, nat_lt, nat_eq, Bool, true, false, cond, ◌||◌, List, [], ◌∷◌, ◌++◌, map, length, take, get_or, Option, Some, None, slice_get, refl, sym, ap, subst, ◌∙◌, append_assoc, append-nil, take-suc, length-take-le, arith}
use Rattle.std.specs.List.{AllByRecursion, IsDistinct}
use Rattle.std.specs.Cmp.Lexicographic.{pointwise, bytes_decides}
use borrow.Author.Tests.{ltb-true}
use Rattle.std.proofs.lemmas.List.{length-map, length-append, ext_get_or, get_or-take, get_or-append-add}
use Rattle.std.proofs.lemmas.Option.{slice_get_within, slice_get_past}
use Rattle.std.proofs.lemmas.Bool.Decides.{nat_tests}
use Rattle.std.proofs.Math.ListN.{get_or-append}
use Rattle.text_core.proofs.Laws.{each_get, each_index, and_both, and_true, not_both, number_same}
use Rattle.logic_core.specs.Forms.{SlotIsBelow, AtomIsBelow}
use Rattle.logic_core.specs.declared.form.Slot.{Slot}
use Rattle.logic_core.specs.declared.form.Slot.TheVariants.{Variable, Constant}
use Rattle.logic_core.specs.declared.form.Atom.{Atom}
use Rattle.fact_store.specs.Facts.{Fact, is_fact, stands, AreDistinctFacts}
use Rattle.instance_cursor.specs.Facts.{signed_number, element_at, elements_at, stands_at}
use Rattle.instance_cursor.specs.declared.origin.Origin.{Origin}
use Rattle.instance_cursor.specs.Origins.{first_occurrence, free_variables, origin_of, origins_of}
use Rattle.instance_cursor.specs.Picks.{EachFits}
use Rattle.instance_cursor.specs.Fitting.{Searched, args_or_none, args_at, read, instance_at, reads, is_at, are_at, is_fact_at, fits_at, fits, AreFitting}
use Rattle.instance_cursor.proofs.Lists.{each_from, each_below_length, item_below, map_at, rest_of_number, below_or_not}
use Rattle.instance_cursor.proofs.Depths.{fits_each}
use Rattle.instance_cursor.proofs.Placed.{placed, found, origin_of-placed, origin_of-free, length-origins, origins_at, free_at, free_is}

-- ---- picks by their number

-- picks that each fit behind those before it
pub each_fits : (test : List ℕ → ℕ → Bool) (front picks : List ℕ) → ((i : ℕ) → i < length picks → test (front ++ take i picks) (get_or picks i 0) ≡ true) → EachFits test front picks
each_fits test front [] h = tt
each_fits test front (pick ∷ picks) h = (
  subst (λ ps. test ps pick ≡ true) (append-nil front) (h zero (omega arith)),
  each_fits test (front ++ pick ∷ []) picks (λ i low. subst (λ ps. test ps (get_or picks i 0) ≡ true) (sym (append_assoc front (pick ∷ []) (take i picks))) (h (suc i) (omega arith))),
)

-- ---- facts by their number

-- the fact with this symbol and these elements
pub fact_is : (signed : ℕ) (args : List ℕ) (fact : Fact) → is_fact signed args fact ≡ true → fact ≡ record { signed = signed; args = args }
fact_is signed args fact e =
    let parts = and_both (signed == fact.signed) (pointwise nat_eq args fact.args) e in
    let symbol : fact.signed ≡ signed = sym (number_same signed fact.signed parts.0) in
    let elements = sym ((bytes_decides args fact.args).0 parts.1) in
    λ i. record { signed = symbol i; args = elements i }

-- a fact is the one with its symbol and elements
is_same_fact : (signed : ℕ) (args : List ℕ) → is_fact signed args (record { signed = signed; args = args }) ≡ true
is_same_fact signed args = and_true (signed == signed) _ (grind (arith, nat_tests)) ((bytes_decides args args).1 refl)

-- where a fact stands, it has a number
number_of : (signed : ℕ) (args : List ℕ) (facts : List Fact) → stands signed args facts ≡ true → (n : ℕ) × (slice_get facts n ≡ Some (record { signed = signed; args = args }))
number_of signed args [] e = absurd (cc)
number_of signed args (fact ∷ facts) e = by (is_fact signed args fact) refl e (number_of signed args facts)
  where
    by : (test : Bool) → is_fact signed args fact ≡ test → (test || stands signed args facts) ≡ true
        → (stands signed args facts ≡ true → (n : ℕ) × (slice_get facts n ≡ Some (record { signed = signed; args = args })))
        → (n : ℕ) × (slice_get (fact ∷ facts) n ≡ Some (record { signed = signed; args = args }))
    by true is e rest = (zero, ap Some (fact_is signed args fact is))
    by false is e rest = let n = rest e in (suc n.0, n.1)

-- where a fact has a number, it stands
number_stands : (signed : ℕ) (args : List ℕ) (facts : List Fact) (n : ℕ) → slice_get facts n ≡ Some (record { signed = signed; args = args }) → stands signed args facts ≡ true
number_stands signed args [] n e = absurd (cc)
number_stands signed args (fact ∷ facts) zero e =
    let same : fact ≡ record { signed = signed; args = args } = cc in
    ap (λ b. b || stands signed args facts) (ap (is_fact signed args) same ∙ is_same_fact signed args)
number_stands signed args (fact ∷ facts) (suc n) e = by (is_fact signed args fact) (number_stands signed args facts n e)
  where
    by : (test : Bool) → stands signed args facts ≡ true → (test || stands signed args facts) ≡ true
    by true rest = refl
    by false rest = rest

-- a fact has one number where no fact stands twice
one_number : (fact : Fact) (facts : List Fact) → AreDistinctFacts facts → (i j : ℕ) → slice_get facts i ≡ Some fact → slice_get facts j ≡ Some fact → i ≡ j
unfolding IsDistinct
one_number fact [] apart i j a b = absurd (cc)
one_number fact (f ∷ facts) apart zero zero a b = refl
one_number fact (f ∷ facts) apart zero (suc j) a b = absurd (twice fact f facts apart.0 j a b)
  where
    twice : (fact f : Fact) (facts : List Fact) → AllByRecursion (λ g. is_fact f.signed f.args g ≡ false) facts → (j : ℕ) → Some f ≡ Some fact → slice_get facts j ≡ Some fact → ⊥
    twice fact f facts apart j a b =
        let same : fact ≡ f = cc in
        not_both _ (is_same_fact f.signed f.args) (each_get (λ g. is_fact f.signed f.args g ≡ false) facts j f apart (b ∙ ap Some same))
one_number fact (f ∷ facts) apart (suc i) zero a b = absurd (twice fact f facts apart.0 i b a)
  where
    twice : (fact f : Fact) (facts : List Fact) → AllByRecursion (λ g. is_fact f.signed f.args g ≡ false) facts → (j : ℕ) → Some f ≡ Some fact → slice_get facts j ≡ Some fact → ⊥
    twice fact f facts apart j a b =
        let same : fact ≡ f = cc in
        not_both _ (is_same_fact f.signed f.args) (each_get (λ g. is_fact f.signed f.args g ≡ false) facts j f apart (b ∙ ap Some same))
one_number fact (f ∷ facts) apart (suc i) (suc j) a b = ap suc (one_number fact facts apart.1 i j a b)

-- a number is the same as itself
same_number : (x : ℕ) → (x == x) ≡ true
same_number x = grind (arith, nat_tests)

-- a number below another passes the test
less_passes : (x y : ℕ) → x < y → nat_lt x y ≡ true
less_passes x y h = grind (arith, nat_tests)

module _ (premises : List Atom) (n elements : ℕ) (facts : List Fact) where
  -- what is gone through
  abbrev s : Searched
  s = record { premises = premises; origins = origins_of premises n; facts = facts; elements = elements }

  -- the variables in no premise
  abbrev free : List ℕ
  free = free_variables premises n

  -- the fact that an atom is at some elements
  abbrev fact_at : List ℕ → Atom → Fact
  fact_at args atom = record { signed = signed_number atom; args = elements_at args atom }

  -- picks and the elements of the variables agree
  pub record Agree (picks args : List ℕ) : Type 0 where
    pub count : length picks ≡ length premises + length free
    pub facts_are : (depth : ℕ) (atom : Atom) → slice_get premises depth ≡ Some atom → slice_get facts (get_or picks depth 0) ≡ Some (fact_at args atom)
    pub elements_are : (number variable : ℕ) → slice_get free number ≡ Some variable → get_or picks (length premises + number) 0 ≡ get_or args variable 0

  -- the element at an origin in a premise
  read_placed : (picks : List ℕ) (origin : Origin) → origin.depth < length premises → read s picks origin ≡ get_or (args_at facts (get_or picks origin.depth 0)) origin.position 0
  read_placed picks origin h =
      let test : nat_lt origin.depth (length premises) ≡ true = grind (arith, nat_tests) in
      ap (λ b. cond b (get_or (args_at facts (get_or picks origin.depth 0)) origin.position 0) (get_or picks origin.depth 0)) test

  -- the element at an origin behind the premises
  read_behind : (picks : List ℕ) (origin : Origin) → length premises ≤ origin.depth → read s picks origin ≡ get_or picks origin.depth 0
  read_behind picks origin h =
      let test : nat_lt origin.depth (length premises) ≡ false = grind (arith, nat_tests) in
      ap (λ b. cond b (get_or (args_at facts (get_or picks origin.depth 0)) origin.position 0) (get_or picks origin.depth 0)) test

  -- picks up to a depth are enough to read what is at it
  read_front : (picks : List ℕ) (origin : Origin) (depth : ℕ) → origin.depth ≤ depth → depth < length premises → read s (take (suc depth) picks) origin ≡ read s picks origin
  read_front picks origin depth h low =
      read_placed (take (suc depth) picks) origin (omega arith)
      ∙ ap (λ pick. get_or (args_at facts pick) origin.position 0) (get_or-take (suc depth) picks origin.depth 0 (omega arith))
      ∙ sym (read_placed picks origin (omega arith))

  -- an element of the instance
  instance_of : (picks : List ℕ) (variable : ℕ) → variable < n → get_or (instance_at s picks) variable 0 ≡ read s picks (origin_of premises variable)
  instance_of picks variable h = map_at (read s picks) (origins_of premises n) variable (origin_of premises variable) (origins_at premises n variable h)

  -- the instance has an element for each variable
  pub length-instance : (picks : List ℕ) → length (instance_at s picks) ≡ n
  length-instance picks = length-map (origins_of premises n) (read s picks) ∙ length-origins premises n

  -- a slot of a premise: each variable has its origin there or before
  IsReadBy : ℕ → Slot → Type 0
  IsReadBy depth (Variable i) = (i < n) × ((origin_of premises i).depth ≤ depth)
  IsReadBy depth (Constant c) = Unit {0}

  -- a variable's element is below the bound
  IsKnownIn : List ℕ → Slot → Type 0
  IsKnownIn args (Variable i) = get_or args i 0 < elements
  IsKnownIn args (Constant c) = Unit {0}

  -- a variable is known
  known_variable : (args : List ℕ) (variable : ℕ) → IsKnownIn args (Variable variable) → get_or args variable 0 < elements
  unfolding IsKnownIn
  known_variable args variable h = h

  module _ (below : AllByRecursion (AtomIsBelow n elements) premises) where
    -- each slot of a premise has its origin there or before
    read_by : (depth : ℕ) (atom : Atom) → slice_get premises depth ≡ Some atom → (at : ℕ) (slot : Slot) → slice_get atom.args at ≡ Some slot → IsReadBy depth slot
    unfolding IsReadBy
    read_by depth atom here at (Constant c) e = tt
    read_by depth atom here at (Variable i) e =
        let low : SlotIsBelow n elements (Variable i) = each_get (SlotIsBelow n elements) atom.args at (Variable i) (each_get (AtomIsBelow n elements) premises depth atom below here) e in
        let first = found i 0 premises depth atom at here e in
        (low, subst (λ origin. origin.depth ≤ depth) (sym (origin_of-placed premises i first.origin first.first)) (let early = first.early in omega arith))

    -- each slot of a premise, in order
    each_read_by : (depth : ℕ) (atom : Atom) → slice_get premises depth ≡ Some atom → AllByRecursion (IsReadBy depth) atom.args
    each_read_by depth atom here = each_from (IsReadBy depth) atom.args (read_by depth atom here)

    -- ---- from picks to the instance

    -- what a slot has at picks is its element in the instance
    slot_read : (picks : List ℕ) (depth : ℕ) → depth < length premises → (slot : Slot) (x : ℕ) → IsReadBy depth slot → is_at s (take (suc depth) picks) slot x ≡ true
        → (x ≡ element_at (instance_at s picks) slot) × IsKnownIn (instance_at s picks) slot
    unfolding IsReadBy IsKnownIn
    slot_read picks depth low (Constant c) x by e = (number_same x c e, tt)
    slot_read picks depth low (Variable i) x by e =
        let parts = and_both (nat_lt x elements) _ e in
        let value : (read s (take (suc depth) picks) (origin_of premises i) == x) ≡ true = subst (λ o. reads s (take (suc depth) picks) o x ≡ true) (origins_at premises n i by.0) parts.1 in
        let same : x ≡ get_or (instance_at s picks) i 0 =
        sym (number_same _ x value) ∙ read_front picks (origin_of premises i) depth by.1 low ∙ sym (instance_of picks i by.0) in
        let less : x < elements = ltb-true _ _ parts.0 in
        (same, subst (λ y. y < elements) same less)

    -- what slots have at picks are their elements in the instance
    slots_read : (picks : List ℕ) (depth : ℕ) → depth < length premises → (slots : List Slot) (xs : List ℕ) → AllByRecursion (IsReadBy depth) slots
        → are_at s (take (suc depth) picks) slots xs ≡ true → (xs ≡ map (element_at (instance_at s picks)) slots) × AllByRecursion (IsKnownIn (instance_at s picks)) slots
    slots_read picks depth low [] [] by e = (refl, tt)
    slots_read picks depth low [] (x ∷ xs) by e = absurd (cc)
    slots_read picks depth low (slot ∷ slots) [] by e = absurd (cc)
    slots_read picks depth low (slot ∷ slots) (x ∷ xs) by e =
        let parts = and_both (is_at s (take (suc depth) picks) slot x) _ e in
        let first = slot_read picks depth low slot x by.0 parts.0 in
        let rest = slots_read picks depth low slots xs by.1 parts.1 in
        ((λ i. first.0 i ∷ rest.0 i), (first.1, rest.1))

    -- the fact that is picked for a premise is the premise at the instance
    record IsPremiseAt (picks : List ℕ) (depth : ℕ) (atom : Atom) : Type 0 where
      fact : slice_get facts (get_or picks depth 0) ≡ Some (fact_at (instance_at s picks) atom)
      known : AllByRecursion (IsKnownIn (instance_at s picks)) atom.args

    module _ (picks : List ℕ) (fit : AreFitting s [] picks) (count : length picks ≡ length premises + length free) where
      -- the test of a pick
      test_of : (depth : ℕ) → depth < length picks → fits_at s (slice_get premises depth) (take (suc depth) picks) (get_or picks depth 0) ≡ true
      test_of depth low =
          (λ i. fits_at s (slice_get premises (sym (length-take-le depth picks (omega arith)) i)) (take-suc picks depth 0 low i) (get_or picks depth 0))
          ∙ fits_each (fits s) [] picks fit depth low

      -- the fact that is picked for a premise
      premise_at : (depth : ℕ) (atom : Atom) → slice_get premises depth ≡ Some atom → IsPremiseAt picks depth atom
      premise_at depth atom here =
          let low = slice_get_within premises depth atom here in
          by low (slice_get facts (get_or picks depth 0)) refl
          (sym (ap (λ o. fits_at s o (take (suc depth) picks) (get_or picks depth 0)) here) ∙ test_of depth (omega arith))
        where
          by : depth < length premises → (o : Option Fact) → slice_get facts (get_or picks depth 0) ≡ o → is_fact_at s (take (suc depth) picks) atom o ≡ true → IsPremiseAt picks depth atom
          by low None none e = absurd (cc)
          by low (Some fact) some e =
              let parts = and_both (fact.signed == signed_number atom) _ e in
              let symbol = number_same fact.signed (signed_number atom) parts.0 in
              let read = slots_read picks depth low atom.args fact.args (each_read_by depth atom here) parts.1 in record {
                fact = some ∙ (λ i. Some (record { signed = symbol i; args = read.0 i }));
                known = read.1;
              }

      -- the element that is picked for a variable in no premise
      element_of : (number variable : ℕ) → slice_get free number ≡ Some variable
          → (get_or picks (length premises + number) 0 ≡ get_or (instance_at s picks) variable 0) × (get_or picks (length premises + number) 0 < elements)
      element_of number variable e =
          let is = free_is premises n number variable e in
          let there = slice_get_within free number variable e in
          let none : slice_get premises (length premises + number) ≡ None = slice_get_past premises (length premises + number) (omega arith) in (
            sym (instance_of picks variable is.below
                ∙ ap (read s picks) (origin_of-free premises variable is.none ∙ (λ i. record { depth = length premises + is.before i; position = 0 }))
                ∙ read_behind picks (record { depth = length premises + number; position = 0 }) (omega arith)),
            ltb-true _ _ (sym (ap (λ o. fits_at s o (take (suc (length premises + number)) picks) (get_or picks (length premises + number) 0)) none) ∙ test_of (length premises + number) (omega arith)),
          )

      -- picks that fit agree with the instance at them
      pub instance_agrees : Agree picks (instance_at s picks)
      instance_agrees = record {
        count = count;
        facts_are = λ depth atom here. (premise_at depth atom here).fact;
        elements_are = λ number variable e. (element_of number variable e).0;
      }

      -- each element of the instance is below the bound
      pub instance_known : AllByRecursion (λ e. e < elements) (instance_at s picks)
      instance_known = each_below_length (λ e. e < elements) (instance_at s picks) (λ variable low. by variable (omega (arith, length-instance picks)) (first_occurrence variable 0 premises) refl)
        where
          by : (variable : ℕ) → variable < n → (o : Option Origin) → first_occurrence variable 0 premises ≡ o → get_or (instance_at s picks) variable 0 < elements
          by variable low None none =
              let e = element_of (length (free_variables premises variable)) variable (free_at premises n variable low none) in
              subst (λ x. x < elements) e.0 e.1
          by variable low (Some origin) some =
              let p = placed variable 0 premises origin some in
              known_variable (instance_at s picks) variable (each_get (IsKnownIn (instance_at s picks)) p.atom.args origin.position (Variable variable) (premise_at p.number p.atom p.here).known p.slot)

    -- ---- from the instance to picks

    module _ (args picks : List ℕ) (agree : Agree picks args) (size : length args ≡ n) where
      -- what is read of a variable is its element
      read_agrees : (variable : ℕ) → variable < n → read s picks (origin_of premises variable) ≡ get_or args variable 0
      read_agrees variable low = by (first_occurrence variable 0 premises) refl
        where
          by : (o : Option Origin) → first_occurrence variable 0 premises ≡ o → read s picks (origin_of premises variable) ≡ get_or args variable 0
          by None none =
              ap (read s picks) (origin_of-free premises variable none)
              ∙ read_behind picks (record { depth = length premises + length (free_variables premises variable); position = 0 }) (omega arith)
              ∙ agree.elements_are (length (free_variables premises variable)) variable (free_at premises n variable low none)
          by (Some origin) some =
              let p = placed variable 0 premises origin some in
              let depth : origin.depth ≡ p.number = let e = p.is in omega arith in
              let within = slice_get_within premises p.number p.atom p.here in
              ap (read s picks) (origin_of-placed premises variable origin some)
              ∙ read_placed picks origin (omega arith)
              ∙ ap (λ l. get_or (args_at facts (get_or picks l 0)) origin.position 0) depth
              ∙ ap (λ o. get_or (args_or_none o) origin.position 0) (agree.facts_are p.number p.atom p.here)
              ∙ map_at (element_at args) p.atom.args origin.position (Variable variable) p.slot

      -- the instance is the one that they agree with
      pub instance_is : instance_at s picks ≡ args
      instance_is = ext_get_or 0 (instance_at s picks) args (length-instance picks ∙ sym size)
          (λ variable low. let below : variable < n = omega (arith, length-instance picks) in instance_of picks variable below ∙ read_agrees variable below)

      module _ (known : AllByRecursion (λ e. e < elements) args) where
        -- a slot has its element at picks
        slot_fits : (depth : ℕ) → depth < length premises → (slot : Slot) → IsReadBy depth slot → is_at s (take (suc depth) picks) slot (element_at args slot) ≡ true
        unfolding IsReadBy
        slot_fits depth low (Constant c) by = grind (arith, nat_tests)
        slot_fits depth low (Variable i) by =
            let less : get_or args i 0 < elements = each_index (λ e. e < elements) args i (let b = by.0 in omega (arith, size)) known in
            let value = read_front picks (origin_of premises i) depth by.1 low ∙ read_agrees i by.0 in
            and_true (nat_lt (get_or args i 0) elements) _ (grind (arith, nat_tests))
            (ap (λ o. reads s (take (suc depth) picks) o (get_or args i 0)) (origins_at premises n i by.0)
            ∙ ap (λ y. y == get_or args i 0) value ∙ same_number (get_or args i 0))

        -- slots have their elements at picks
        slots_fit : (depth : ℕ) → depth < length premises → (slots : List Slot) → AllByRecursion (IsReadBy depth) slots
            → are_at s (take (suc depth) picks) slots (map (element_at args) slots) ≡ true
        slots_fit depth low [] by = refl
        slots_fit depth low (slot ∷ slots) by = and_true (is_at s (take (suc depth) picks) slot (element_at args slot)) _ (slot_fits depth low slot by.0) (slots_fit depth low slots by.1)

        -- a premise's pick fits
        premise_fits : (depth : ℕ) (atom : Atom) → slice_get premises depth ≡ Some atom → fits_at s (slice_get premises depth) (take (suc depth) picks) (get_or picks depth 0) ≡ true
        premise_fits depth atom here =
            ap (λ o. fits_at s o (take (suc depth) picks) (get_or picks depth 0)) here
            ∙ ap (is_fact_at s (take (suc depth) picks) atom) (agree.facts_are depth atom here)
            ∙ and_true (signed_number atom == signed_number atom) _ (same_number (signed_number atom))
            (slots_fit depth (slice_get_within premises depth atom here) atom.args (each_read_by depth atom here))

        -- the pick of a variable in no premise fits
        free_fits : (number variable : ℕ) → slice_get free number ≡ Some variable
            → fits_at s (slice_get premises (length premises + number)) (take (suc (length premises + number)) picks) (get_or picks (length premises + number) 0) ≡ true
        free_fits number variable e =
            let is = free_is premises n number variable e in
            let less : get_or args variable 0 < elements = each_index (λ x. x < elements) args variable (let b = is.below in omega (arith, size)) known in
            let pick = agree.elements_are number variable e in
            ap (λ o. fits_at s o (take (suc (length premises + number)) picks) (get_or picks (length premises + number) 0)) (slice_get_past premises (length premises + number) (omega arith))
            ∙ ap (λ x. nat_lt x elements) pick ∙ less_passes (get_or args variable 0) elements less

        -- each pick fits
        depth_fits : (depth : ℕ) → depth < length picks → fits_at s (slice_get premises depth) (take (suc depth) picks) (get_or picks depth 0) ≡ true
        depth_fits depth low = elim (below_or_not depth (length premises)) [
          | inl l ↦ let atom = item_below premises depth l in premise_fits depth atom.0 atom.1
          | inr l ↦ let rest = rest_of_number (length premises) depth l in
              let e = rest.1 in
              let variable = item_below free rest.0 (omega (arith, agree.count)) in
              subst (λ m. fits_at s (slice_get premises m) (take (suc m) picks) (get_or picks m 0) ≡ true) (sym e) (free_fits rest.0 variable.0 variable.1)
        ]

        -- picks that agree with an instance fit
        pub agreeing_fit : AreFitting s [] picks
        agreeing_fit = each_fits (fits s) [] picks (λ depth low.
            (λ i. fits_at s (slice_get premises (length-take-le depth picks (omega arith) i)) (sym (take-suc picks depth 0 low) i) (get_or picks depth 0))
            ∙ depth_fits depth low)

  -- the facts of atoms that stand have numbers
  record HaveNumbers (args : List ℕ) (atoms : List Atom) : Type 0 where
    numbers : List ℕ
    size : length numbers ≡ length atoms
    facts_are : (depth : ℕ) (atom : Atom) → slice_get atoms depth ≡ Some atom → slice_get facts (get_or numbers depth 0) ≡ Some (fact_at args atom)

  -- one more atom in front
  one_more : (args : List ℕ) (atom : Atom) (atoms : List Atom) (number : ℕ) → slice_get facts number ≡ Some (fact_at args atom) → HaveNumbers args atoms → HaveNumbers args (atom ∷ atoms)
  one_more args atom atoms number e rest = record { numbers = number ∷ rest.numbers; size = ap suc rest.size; facts_are = at }
    where
      at : (depth : ℕ) (a : Atom) → slice_get (atom ∷ atoms) depth ≡ Some a → slice_get facts (get_or (number ∷ rest.numbers) depth 0) ≡ Some (fact_at args a)
      at zero a here = let same : atom ≡ a = cc in e ∙ ap (λ b. Some (fact_at args b)) same
      at (suc depth) a here = rest.facts_are depth a here

  numbers_of : (args : List ℕ) (atoms : List Atom) → AllByRecursion (λ atom. stands_at facts args atom ≡ true) atoms → HaveNumbers args atoms
  numbers_of args [] h = record { numbers = []; size = refl; facts_are = λ depth atom here. absurd (cc) }
  numbers_of args (atom ∷ atoms) h =
      let number = number_of (signed_number atom) (elements_at args atom) facts h.0 in one_more args atom atoms number.0 number.1 (numbers_of args atoms h.1)

  -- picks that agree with an instance
  pub picks_for : (args : List ℕ) → AllByRecursion (λ atom. stands_at facts args atom ≡ true) premises → (picks : List ℕ) × Agree picks args
  picks_for args h =
      let have = numbers_of args premises h in
      let elements = map (λ variable. get_or args variable 0) free in
      let size = have.size in (
        have.numbers ++ elements,
        record {
          count = omega (arith, length-append have.numbers elements, length-map free (λ variable. get_or args variable 0), size);
          facts_are = λ depth atom here.
              let low = slice_get_within premises depth atom here in
              ap (slice_get facts) (get_or-append have.numbers elements 0 depth (omega arith)) ∙ have.facts_are depth atom here;
          elements_are = λ number variable e.
              ap (λ l. get_or (have.numbers ++ elements) (l + number) 0) (sym size)
              ∙ get_or-append-add have.numbers elements number 0
              ∙ map_at (λ v. get_or args v 0) free number variable e;
        },
      )

  -- premises that agree with picks stand
  pub agreeing_stand : (picks args : List ℕ) → Agree picks args → AllByRecursion (λ atom. stands_at facts args atom ≡ true) premises
  agreeing_stand picks args agree =
      each_from (λ atom. stands_at facts args atom ≡ true) premises (λ depth atom here. number_stands (signed_number atom) (elements_at args atom) facts (get_or picks depth 0) (agree.facts_are depth atom here))

  -- one list of picks agrees with an instance
  pub one_picks : AreDistinctFacts facts → (args a b : List ℕ) → Agree a args → Agree b args → a ≡ b
  one_picks distinct args a b p q = ext_get_or 0 a b (p.count ∙ sym q.count) (λ depth low. elim (below_or_not depth (length premises)) [
    | inl l ↦ let atom = item_below premises depth l in
        one_number (fact_at args atom.0) facts distinct (get_or a depth 0) (get_or b depth 0) (p.facts_are depth atom.0 atom.1) (q.facts_are depth atom.0 atom.1)
    | inr l ↦ let rest = rest_of_number (length premises) depth l in
        let e = rest.1 in
        let variable = item_below free rest.0 (omega (arith, p.count)) in
        subst (λ m. get_or a m 0 ≡ get_or b m 0) (sym e) (p.elements_are rest.0 variable.0 variable.1 ∙ sym (q.elements_are rest.0 variable.0 variable.1))
  ])
