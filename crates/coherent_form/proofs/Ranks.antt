-- How many forms there are under each name, and that sources whose ranks go on are new.
use Rattle.std.proofs.Common.{◌≡◌, ℕ, zero, suc, ◌+◌, ◌<◌, ◌≤◌, ◌&&◌, if◌then◌else◌, nat_eq, Bool, true, false, cond, List, [], ◌∷◌, ◌++◌, map, length, Option, Some, unwrap_or, refl, ap, sym, ◌∙◌, subst, arith, add-one, append_assoc}
use Rattle.std.proofs.lemmas.Bool.Decides.{nat_tests}
use Rattle.std.proofs.lemmas.List.{map-append}
use Rattle.std.specs.List.{AllByRecursion, list_any}
use Rattle.text_core.proofs.Laws.{each_map, each_append}
use Rattle.vernacular_tree.specs.Contexts.{counted}
use Rattle.coherent_form.specs.Gathered.{is_of, HasRank, AreRanked}
use Rattle.coherent_form.specs.Labels.{how_many}
use Rattle.coherent_form.specs.contracts.source.SourcePartialEq.TheImpl.{eq-value}
use Rattle.coherent_form.specs.declared.source.Source.{Source}
use Rattle.coherent_form.specs.declared.source.Source.TheVariants.{Formula, BuiltIn}

-- numbers in a row

-- one number more
pub counted_more : (first n : ℕ) → counted first (n + 1) ≡ counted first n ++ (first + n) ∷ []
counted_more first n = rw add-one (go first n)
  where
    go : (a k : ℕ) → counted a (suc k) ≡ counted a k ++ (a + k) ∷ []
    go a zero = let e : a ≡ a + 0 = omega arith in ap (λ (x : ℕ). x ∷ []) e
    go a (suc k) = let e : a + 1 + k ≡ a + suc k = omega arith in ap (λ xs. a ∷ xs) (go (a + 1) k ∙ ap (λ (x : ℕ). counted (a + 1) k ++ x ∷ []) e)

-- so many there are
pub length_counted : (first n : ℕ) → length (counted first n) ≡ n
length_counted first zero = refl
length_counted first (suc n) = let e = length_counted (first + 1) n in omega arith

-- each is below their end
counted_below : (first n most : ℕ) → first + n ≤ most + 1 → AllByRecursion (λ k. k ≤ most) (counted first n)
counted_below first zero most h = tt
counted_below first (suc n) most h = (omega arith, counted_below (first + 1) n most (omega arith))

-- how many pass

-- those of two lists are added
pub how_many-append : {X : Type 0} (test : X → Bool) (xs ys : List X) → how_many test (xs ++ ys) ≡ how_many test xs + how_many test ys
how_many-append test [] ys = omega arith
how_many-append test (x ∷ xs) ys = let e = how_many-append test xs ys in omega arith

-- no more than there are
pub how_many_le : {X : Type 0} (test : X → Bool) (xs : List X) → how_many test xs ≤ length xs
how_many_le test [] = omega arith
how_many_le test (x ∷ xs) = go (test x) (how_many_le test xs)
  where
    go : {k n : ℕ} (b : Bool) → k ≤ n → (if b then 1 else 0) + k ≤ suc n
    go true h = omega arith
    go false h = omega arith

-- all of one name, or none
pub how_many_of : (name other : ℕ) (ranks : List ℕ) → how_many (is_of name) (map (Formula other) ranks) ≡ (if nat_eq other name then length ranks else 0)
how_many_of name other [] = go 0 (nat_eq other name)
  where
    go : (n : ℕ) (b : Bool) → n ≡ (if b then n else n)
    go n true = refl
    go n false = refl
how_many_of name other (r ∷ ranks) = go (nat_eq other name) (length ranks) (how_many (is_of name) (map (Formula other) ranks)) (how_many_of name other ranks)
  where
    go : (b : Bool) (n k : ℕ) → k ≡ (if b then n else 0) → (if b then 1 else 0) + k ≡ (if b then suc n else 0)
    go true n k e = omega arith
    go false n k e = omega arith

-- sources are the same where their names and ranks are
same_sources : (n r m q : ℕ) → eq-value.it (Formula n r) (Formula m q) ≡ (nat_eq n m && nat_eq r q)
same_sources n r m q = refl

-- a source is another one: it has another name, or a lesser rank
abbrev pub IsBefore : ℕ → ℕ → Source → Type 0
IsBefore name rank (Formula other r) = nat_eq other name ≡ true → r < rank
IsBefore name rank (BuiltIn built) = ⊥

-- a name that is not the other one
swapped : (m n : ℕ) (b : Bool) → nat_eq m n ≡ b → nat_eq n m ≡ b
swapped m n true e = grind (arith, nat_tests)
swapped m n false e = grind (arith, nat_tests)

-- a source is not one that it is before
before_apart : (name rank : ℕ) (s : Source) → IsBefore name rank s → eq-value.it (Formula name rank) s ≡ false
before_apart name rank (BuiltIn built) h = absurd h
before_apart name rank (Formula other r) h = go (nat_eq other name) refl
  where
    go : (b : Bool) → nat_eq other name ≡ b → (nat_eq name other && nat_eq rank r) ≡ false
    go true e = let less : r < rank = h e in let apart : nat_eq rank r ≡ false = grind (arith, nat_tests) in rw (swapped other name true e, apart) refl
    go false e = rw (swapped other name false e) refl

-- it is among none of those
pub before_new : (name rank : ℕ) (sources : List Source) → AllByRecursion (IsBefore name rank) sources → list_any (eq-value.it (Formula name rank)) sources ≡ false
before_new name rank [] h = refl
before_new name rank (s ∷ sources) h = rw (before_apart name rank s h.0) (before_new name rank sources h.1)

-- sources of a name with lesser ranks are before
counted_before : (name rank : ℕ) (ranks : List ℕ) → AllByRecursion (λ r. r < rank) ranks → AllByRecursion (IsBefore name rank) (map (Formula name) ranks)
counted_before name rank [] h = tt
counted_before name rank (r ∷ ranks) h = ((λ e. h.0), counted_before name rank ranks h.1)

-- the rank of a source is at most how many there are
ranked_before : (all : List Source) (name rank : ℕ) (s : Source) → how_many (is_of name) all < rank → HasRank all s → IsBefore name rank s
ranked_before all name rank (BuiltIn built) less h = absurd h
ranked_before all name rank (Formula other r) less h = λ e.
    let same : other ≡ name = grind (arith, nat_tests) in
    let le : r ≤ how_many (is_of name) all = subst (λ n. r ≤ how_many (is_of n) all) same h in
    omega arith

-- sources of a name whose ranks go on

module _ (old : List Source) (name rank : ℕ) (each : AllByRecursion (HasRank old) old) (so_far : rank ≡ how_many (is_of name) old) where
  -- the next one is put behind them
  pub sources_more : (count : ℕ) (before after : List Source) → before ≡ old ++ map (Formula name) (counted (rank + 1) count)
      → after ≡ (if list_any (eq-value.it (Formula name (rank + 1 + count))) before then before else before ++ Formula name (rank + 1 + count) ∷ [])
      → after ≡ old ++ map (Formula name) (counted (rank + 1) (count + 1))
  sources_more count before after is next =
      let last : ℕ = rank + 1 + count in
      let ranks = counted (rank + 1) count in
      let all = each_append (IsBefore name last) old (map (Formula name) ranks)
      (each_map {Q = IsBefore name last} (λ s h. ranked_before old name last s (let e = so_far in omega arith) h) old each)
      (counted_before name last ranks (each_map {Q = λ r. r < last} (λ r h. let le : r ≤ rank + count = h in omega arith) ranks (counted_below (rank + 1) count (rank + count) (omega arith)))) in
      let new : list_any (eq-value.it (Formula name last)) before ≡ false = ap (list_any (eq-value.it (Formula name last))) is ∙ before_new name last (old ++ map (Formula name) ranks) all in
      next ∙ ap (λ b. if b then before else before ++ Formula name last ∷ []) new ∙ ap (λ sources. sources ++ Formula name last ∷ []) is
      ∙ append_assoc old (map (Formula name) ranks) (Formula name last ∷ [])
      ∙ ap (λ more. old ++ more) (sym (map-append (Formula name) ranks (last ∷ [])) ∙ ap (map (Formula name)) (sym (counted_more (rank + 1) count)))

  -- how many forms there are under each name then
  module _ (ranks after : ℕ → Option ℕ) (count : ℕ) (sources : List Source) (sources_are : sources ≡ old ++ map (Formula name) (counted (rank + 1) count))
      (updated : (q : ℕ) → after q ≡ cond (nat_eq name q) (Some (rank + count)) (ranks q)) (counts : (q : ℕ) → unwrap_or (ranks q) 0 ≡ how_many (is_of q) old) where
    -- they are added
    how_many_after : (q : ℕ) → how_many (is_of q) sources ≡ how_many (is_of q) old + (if nat_eq name q then count else 0)
    how_many_after q = ap (how_many (is_of q)) sources_are ∙ how_many-append (is_of q) old (map (Formula name) (counted (rank + 1) count))
        ∙ ap (λ (n : ℕ). how_many (is_of q) old + n) (how_many_of q name (counted (rank + 1) count) ∙ ap (λ (n : ℕ). if nat_eq name q then n else 0) (length_counted (rank + 1) count))

    -- as the ranks tell
    counts_after : (q : ℕ) → unwrap_or (after q) 0 ≡ how_many (is_of q) sources
    counts_after q = go (nat_eq name q) refl (updated q) (how_many_after q)
      where
        go : (b : Bool) → nat_eq name q ≡ b → after q ≡ cond b (Some (rank + count)) (ranks q) → how_many (is_of q) sources ≡ how_many (is_of q) old + (if b then count else 0)
            → unwrap_or (after q) 0 ≡ how_many (is_of q) sources
        go true e is many =
            let same : name ≡ q = grind (arith, nat_tests) in
            let told : how_many (is_of name) old ≡ how_many (is_of q) old = ap (λ n. how_many (is_of n) old) same in
            let value : unwrap_or (after q) 0 ≡ rank + count = ap (λ o. unwrap_or o 0) is in
            let known = so_far in omega arith
        go false e is many =
            let value : unwrap_or (after q) 0 ≡ unwrap_or (ranks q) 0 = ap (λ o. unwrap_or o 0) is in
            let known = counts q in omega arith

    -- the rank of a source that was there
    old_ranked : (s : Source) → HasRank old s → HasRank sources s
    old_ranked (BuiltIn built) h = h
    old_ranked (Formula other r) h =
        let many = how_many-append (is_of other) old (map (Formula name) (counted (rank + 1) count)) in
        let is : how_many (is_of other) sources ≡ how_many (is_of other) (old ++ map (Formula name) (counted (rank + 1) count)) = ap (how_many (is_of other)) sources_are in
        let le : r ≤ how_many (is_of other) old = h in
        omega arith

    -- the ranks of new sources
    new_ranked : (new : List ℕ) → AllByRecursion (λ r. r ≤ rank + count) new → AllByRecursion (HasRank sources) (map (Formula name) new)
    new_ranked [] h = tt
    new_ranked (r ∷ new) h =
        let same : nat_eq name name ≡ true = grind (arith, nat_tests) in
        let many = how_many_after name ∙ ap (λ b. how_many (is_of name) old + (if b then count else 0)) same in
        let le : r ≤ rank + count = h.0 in
        let known = so_far in
        (omega arith, new_ranked new h.1)

    -- forms and ranks agree again
    pub ranked_after : AreRanked after sources
    ranked_after = record {
      counts = counts_after;
      each = subst (AllByRecursion (HasRank sources)) (sym sources_are)
          (each_append (HasRank sources) old (map (Formula name) (counted (rank + 1) count)) (each_map {Q = HasRank sources} old_ranked old each)
          (new_ranked (counted (rank + 1) count) (counted_below (rank + 1) count (rank + count) (omega arith))));
    }
