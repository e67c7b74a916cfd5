-- Names are kept by number: what was told by them stays when names are added, and forms are counted by number as they are by name.
use Rattle.std.proofs.Common.{◌≡◌, ℕ, zero, suc, ◌+◌, ◌<◌, ◌≤◌, if◌then◌else◌, nat_eq, Bool, true, false, List, [], ◌∷◌, ◌++◌, map, length, refl, ap, sym, ◌∙◌, subst, arith, append_assoc}
use Rattle.std.proofs.lemmas.Bool.Decides.{nat_tests}
use Rattle.std.proofs.lemmas.List.{map-append, length-append}
use Rattle.std.specs.List.{AllByRecursion, IsDistinct, list_any}
use Rattle.std.specs.Cmp.Lexicographic.{pointwise, bytes_decides}
use Rattle.text_core.specs.Names.{Text}
use Rattle.text_core.specs.Numbered.{Tables}
use Rattle.text_core.proofs.Laws.{each_map, each_append, each_same}
use Rattle.vernacular_tree.specs.Contexts.{counted}
use Rattle.signature.specs.Columns.{name_number, with_name}
use Rattle.signature.proofs.Laws.{text_here, number_below}
use Rattle.coherent_form.specs.Gathered.{is_of, IsNamedBelow, AreNamed}
use Rattle.coherent_form.specs.Kept.{name_at, citation_at, IsGiven}
use Rattle.coherent_form.specs.Labels.{how_many}
use Rattle.coherent_form.specs.Tasks.{is_named, further}
use Rattle.coherent_form.specs.declared.citation.Citation.TheVariants.{Axiom}
use Rattle.coherent_form.specs.declared.source.Source.{Source}
use Rattle.coherent_form.specs.declared.source.Source.TheVariants.{Formula, BuiltIn}

-- a name keeps its number where more follow
name_at-append : (names more : List Text) (n : ℕ) → n < length names → name_at (names ++ more) n ≡ name_at names n
name_at-append [] more n below = absurd (omega arith)
name_at-append (x ∷ names) more zero below = refl
name_at-append (x ∷ names) more (suc n) below = name_at-append names more n (omega arith)

-- the names with one more are longer
pub with_name_grows : (names : List Text) (name : Text) → (more : List Text) × (with_name names name ≡ names ++ more)
with_name_grows names name = go (list_any (pointwise nat_eq name) names)
  where
    none : (xs : List Text) → xs ≡ xs ++ []
    none [] = refl
    none (x ∷ xs) = ap (λ ys. x ∷ ys) (none xs)

    go : (b : Bool) → (more : List Text) × ((if b then names else names ++ name ∷ []) ≡ names ++ more)
    go true = ([], none names)
    go false = (name ∷ [], refl)

-- longer names

module _ (old : List Text) (new : List Text) (grown : (more : List Text) × (new ≡ old ++ more)) where
  -- there are no fewer
  length_grown : length old ≤ length new
  length_grown = let both = length-append old grown.0 in let same : length new ≡ length (old ++ grown.0) = ap length grown.1 in omega arith

  -- a name stays
  name_at_stays : (n : ℕ) → n < length old → name_at new n ≡ name_at old n
  name_at_stays n below = ap (λ names. name_at names n) grown.1 ∙ name_at-append old grown.0 n below

  -- so does the name of a source
  pub sources_stay : (sources : List Source) → AllByRecursion (IsNamedBelow (length old)) sources → AllByRecursion (IsNamedBelow (length new)) sources
  sources_stay sources h = each_map {Q = IsNamedBelow (length new)} stays sources h
    where
      stays : (s : Source) → IsNamedBelow (length old) s → IsNamedBelow (length new) s
      stays (Formula name rank) below = let h : name < length old = below in let le = length_grown in omega arith
      stays (BuiltIn built) below = below

  -- and a citation
  citation_stays : (tables : Tables) (s : Source) → IsNamedBelow (length old) s → citation_at new tables s ≡ citation_at old tables s
  citation_stays tables (Formula name rank) below = ap (λ text. Axiom text rank) (name_at_stays name below)
  citation_stays tables (BuiltIn built) below = absurd below

  -- all citations
  pub citations_stay : (tables : Tables) (sources : List Source) → AllByRecursion (IsNamedBelow (length old)) sources
      → map (citation_at new tables) sources ≡ map (citation_at old tables) sources
  citations_stay tables sources h = each_same (citation_at new tables) (citation_at old tables) sources
      (each_map {Q = λ s. citation_at new tables s ≡ citation_at old tables s} (citation_stays tables) sources h)

  -- and variables
  pub variables_stay : (lists : List (List ℕ)) → AllByRecursion (AllByRecursion (λ n. n < length old)) lists
      → map (map (name_at new)) lists ≡ map (map (name_at old)) lists
  variables_stay lists h = each_same (map (name_at new)) (map (name_at old)) lists
      (each_map {Q = λ ns. map (name_at new) ns ≡ map (name_at old) ns} (λ ns all. each_same (name_at new) (name_at old) ns
      (each_map {Q = λ n. name_at new n ≡ name_at old n} name_at_stays ns all)) lists h)

  -- whose numbers are there
  pub numbers_stay : (lists : List (List ℕ)) → AllByRecursion (AllByRecursion (λ n. n < length old)) lists → AllByRecursion (AllByRecursion (λ n. n < length new)) lists
  numbers_stay lists h = each_map {Q = AllByRecursion (λ n. n < length new)} (λ ns all.
      each_map {Q = λ n. n < length new} (λ n below. let b : n < length old = below in let le = length_grown in omega arith) ns all) lists h

-- names that are there once

-- two names differ where one is not the other
apart_swapped : (x y : Text) → pointwise nat_eq x y ≡ false → pointwise nat_eq y x ≡ false
apart_swapped x y e = go (pointwise nat_eq y x) refl
  where
    go : (b : Bool) → pointwise nat_eq y x ≡ b → b ≡ false
    go true same = sym ((bytes_decides x y).1 (sym ((bytes_decides y x).0 same))) ∙ e
    go false same = refl

-- a name with a number has what each has
name_has : (P : Text → Type 0) (names : List Text) → AllByRecursion P names → (n : ℕ) → n < length names → P (name_at names n)
name_has P [] h n below = absurd (omega arith)
name_has P (x ∷ names) h zero below = h.0
name_has P (x ∷ names) h (suc n) below = name_has P names h.1 n (omega arith)

-- 0 is not a number that is greater by one
zero_first : (n : ℕ) → nat_eq 0 (suc n) ≡ false
zero_first n = grind (arith, nat_tests)

-- nor the other way round
zero_second : (n : ℕ) → nat_eq (suc n) 0 ≡ false
zero_second n = grind (arith, nat_tests)

-- numbers that are both greater by one
both_more : (m n : ℕ) → nat_eq (suc m) (suc n) ≡ nat_eq m n
both_more m n = grind (arith, nat_tests)

-- names are the same where their numbers are
names_apart : (names : List Text) → IsDistinct (pointwise nat_eq) names → (m n : ℕ) → m < length names → n < length names
    → pointwise nat_eq (name_at names m) (name_at names n) ≡ nat_eq m n
unfolding IsDistinct
names_apart [] d m n mb nb = absurd (omega arith)
names_apart (x ∷ names) d zero zero mb nb = (bytes_decides x x).1 refl
names_apart (x ∷ names) d zero (suc n) mb nb = name_has (λ y. pointwise nat_eq x y ≡ false) names d.0 n (omega arith) ∙ sym (zero_first n)
names_apart (x ∷ names) d (suc m) zero mb nb =
    apart_swapped x (name_at names m) (name_has (λ y. pointwise nat_eq x y ≡ false) names d.0 m (omega arith)) ∙ sym (zero_second m)
names_apart (x ∷ names) d (suc m) (suc n) mb nb = names_apart names d.1 m n (omega arith) (omega arith) ∙ sym (both_more m n)

module _ (names : List Text) (tables : Tables) (name : Text) (number : ℕ) (below : number < length names) (here : name_at names number ≡ name) where
  -- the citations of further forms of a name
  citations_further : (ranks : List ℕ) → map (citation_at names tables) (map (Formula number) ranks) ≡ map (Axiom name) ranks
  citations_further [] = refl
  citations_further (r ∷ ranks) = λ i. Axiom (here i) r ∷ citations_further ranks i

  -- sources of further forms are there
  pub further_named : (ranks : List ℕ) → AllByRecursion (IsNamedBelow (length names)) (map (Formula number) ranks)
  further_named [] = tt
  further_named (r ∷ ranks) = (below, further_named ranks)

  module _ (distinct : IsDistinct (pointwise nat_eq) names) where
    -- a form of the name is one of its number
    named_of : (s : Source) → IsNamedBelow (length names) s → is_named name (citation_at names tables s) ≡ is_of number s
    named_of (Formula other rank) there = ap (λ text. pointwise nat_eq (name_at names other) text) (sym here) ∙ names_apart names distinct other number there below
    named_of (BuiltIn built) there = absurd there

    -- so they are as many
    how_many_named : (sources : List Source) → AllByRecursion (IsNamedBelow (length names)) sources
        → how_many (is_named name) (map (citation_at names tables) sources) ≡ how_many (is_of number) sources
    how_many_named [] h = refl
    how_many_named (s ∷ sources) h = λ i. (if named_of s h.0 i then 1 else 0) + how_many_named sources h.1 i

    -- the citations with further ones
    pub citations_with : (sources : List Source) (count : ℕ) → AllByRecursion (IsNamedBelow (length names)) sources
        → map (citation_at names tables) (sources ++ map (Formula number) (counted (how_many (is_of number) sources + 1) count))
        ≡ map (citation_at names tables) sources ++ further name (map (citation_at names tables) sources) count
    citations_with sources count h =
        map-append (citation_at names tables) sources (map (Formula number) (counted (how_many (is_of number) sources + 1) count))
        ∙ ap (λ more. map (citation_at names tables) sources ++ more) (citations_further (counted (how_many (is_of number) sources + 1) count)
        ∙ ap (λ (n : ℕ). map (Axiom name) (counted (n + 1) count)) (sym (how_many_named sources h)))

-- tables do not matter for the forms of formulas

-- a citation of a form of a formula
citation_given : (names : List Text) (tables other : Tables) (s : Source) → IsGiven s → citation_at names tables s ≡ citation_at names other s
citation_given names tables other (Formula name rank) h = refl
citation_given names tables other (BuiltIn built) h = absurd h

-- all of them
pub citations_given : (names : List Text) (tables other : Tables) (sources : List Source) → AllByRecursion IsGiven sources
    → map (citation_at names tables) sources ≡ map (citation_at names other) sources
citations_given names tables other sources h = each_same (citation_at names tables) (citation_at names other) sources
    (each_map {Q = λ s. citation_at names tables s ≡ citation_at names other s} (citation_given names tables other) sources h)

-- a source whose name is there is a formula
pub named_given : (names : ℕ) (sources : List Source) → AllByRecursion (IsNamedBelow names) sources → AllByRecursion IsGiven sources
named_given names sources h = each_map {Q = IsGiven} given sources h
  where
    given : (s : Source) → IsNamedBelow names s → IsGiven s
    given (Formula name rank) there = tt
    given (BuiltIn built) there = absurd there

-- a premise's name and those of its variables

module _ (old middle new : List Text) (name : Text) (number : ℕ) (number_is : number ≡ name_number old name) (middle_is : middle ≡ with_name old name)
    (grown : (more : List Text) × (new ≡ middle ++ more)) where
  -- the names are longer
  pub names_grown : (more : List Text) × (new ≡ old ++ more)
  names_grown =
      let first = with_name_grows old name in
      (first.0 ++ grown.0, grown.1 ∙ ap (λ xs. xs ++ grown.0) (middle_is ∙ first.1) ∙ append_assoc old first.0 grown.0)

  -- the number is there in between
  middle_below : number < length middle
  middle_below =
      let below = number_below name old in
      let same : length middle ≡ length (with_name old name) = ap length middle_is in
      let is = number_is in
      omega arith

  -- and then
  pub number_there : number < length new
  number_there = let below = middle_below in let le = length_grown middle new grown in omega arith

  -- with the name
  pub number_names : name_at new number ≡ name
  number_names = name_at_stays middle new grown number middle_below ∙ (λ i. name_at (middle_is i) (number_is i)) ∙ text_here name old

  module _ (tables : Tables) (sources after : List Source) (count : ℕ) (there : AllByRecursion (IsNamedBelow (length old)) sources)
      (after_is : after ≡ sources ++ map (Formula number) (counted (how_many (is_of number) sources + 1) count)) where
    -- the citations are those that were, and further ones
    pub citations_after : IsDistinct (pointwise nat_eq) new
        → map (citation_at new tables) after ≡ map (citation_at old tables) sources ++ further name (map (citation_at old tables) sources) count
    citations_after distinct =
        ap (map (citation_at new tables)) after_is
        ∙ citations_with new tables name number number_there number_names distinct sources count (sources_stay old new names_grown sources there)
        ∙ ap (λ citations. citations ++ further name citations count) (citations_stay old new names_grown tables sources there)

    -- all names are there
    pub named_after : IsDistinct (pointwise nat_eq) new → (lists more : List (List ℕ)) → AllByRecursion (AllByRecursion (λ n. n < length old)) lists
        → AllByRecursion (AllByRecursion (λ n. n < length new)) more → AreNamed new after (lists ++ more)
    named_after distinct lists more first second = record {
      distinct = distinct;
      of_forms = subst (AllByRecursion (IsNamedBelow (length new))) (sym after_is) (each_append (IsNamedBelow (length new)) sources (map (Formula number) (counted (how_many (is_of number) sources + 1) count))
          (sources_stay old new names_grown sources there) (further_named new tables name number number_there number_names (counted (how_many (is_of number) sources + 1) count)));
      of_variables = each_append (AllByRecursion (λ n. n < length new)) lists more (numbers_stay old new names_grown lists first) second;
    }

  -- the variables are those that were, and those of the premise
  pub variables_after : (lists more : List (List ℕ)) (texts : List (List Text)) → AllByRecursion (AllByRecursion (λ n. n < length old)) lists → map (map (name_at new)) more ≡ texts
      → map (map (name_at new)) (lists ++ more) ≡ map (map (name_at old)) lists ++ texts
  variables_after lists more texts h is =
      map-append (map (name_at new)) lists more ∙ (λ i. variables_stay old new names_grown lists h i ++ is i)
