-- A form that is cited is found, and no other form is cited so.
use Rattle.std.proofs.Common.{◌≡◌, ℕ, zero, suc, ◌+◌, ◌<◌, ◌==◌, inl, inr, position, nat_eq, Bool, true, List, [], ◌∷◌, map, length, slice_get, Option, Some, None, refl, ap, sym, ◌∙◌, arith}
use Rattle.std.proofs.lemmas.Bool.Decides.{nat_tests}
use Rattle.std.specs.Cmp.Lexicographic.{pointwise, bytes_decides}
use Rattle.std.specs.List.{AllByRecursion, IsDistinct}
use Rattle.std.specs.Option.{option_map}
use Rattle.text_core.specs.Names.{Text}
use Rattle.text_core.specs.Lists.{IsAmong}
use Rattle.text_core.specs.Numbered.{Symbol, Tables, text_or_empty}
use Rattle.text_core.proofs.Laws.{and_both, and_true, number_same, value_same, each_get}
use Rattle.signature.specs.Columns.{found_name}
use Rattle.signature.specs.Numbers.{AreDistinctSymbols, is_symbol, found_symbol}
use Rattle.coherent_form.specs.BuiltIns.{named_or_equality, cited_symbol, built_in_citation}
use Rattle.coherent_form.specs.Citing.{symbol_cited, source_cited}
use Rattle.coherent_form.specs.Kept.{name_at, citation_at, BuiltInIsThere, SourceIsThere}
use Rattle.coherent_form.specs.declared.citation.Symbol as Cited
use Rattle.coherent_form.specs.declared.citation.Symbol.TheVariants as cited
use Rattle.coherent_form.specs.declared.citation.Citation.{Citation}
use Rattle.coherent_form.specs.declared.citation.Citation.TheVariants as cite
use Rattle.coherent_form.specs.declared.source.BuiltIn as built_in
use Rattle.coherent_form.specs.declared.source.BuiltIn.TheVariants.{Refl, Sym, Trans, Sub, No, Or}
use Rattle.coherent_form.specs.declared.source.Source as source
use Rattle.coherent_form.specs.declared.source.Source.TheVariants.{Formula, BuiltIn}
use Rattle.coherent_form.specs.contracts.source.SourcePartialEq.TheImpl as sources
use Rattle.coherent_form.specs.contracts.source.SourceEq.TheImpl.Laws.{laws-law}
use Rattle.std.proofs.Common.{rules}
use Rattle.coherent_form.proofs.Distinct.{own_position, found_here}
use Rattle.coherent_form.proofs.Labelled.{map_get, name_there}

-- whether two sources are the same, as code tells it
abbrev pub is_same_source : source.Source → source.Source → Bool
is_same_source = (sources.eq-value).it

-- sources that pass the test are the same
same_source : (a b : source.Source) → is_same_source a b ≡ true → a ≡ b
same_source a b e = search rules

-- a source passes its own test
own_source : (a : source.Source) → is_same_source a a ≡ true
own_source a = laws-law.refl a

-- whether two symbols are the same
abbrev is_same_symbol : Symbol → Symbol → Bool
is_same_symbol s t = is_symbol s.name s.arity t

-- symbols that pass the test are the same
same_symbol : (s t : Symbol) → is_same_symbol s t ≡ true → s ≡ t
same_symbol s t e =
    let both = and_both (pointwise nat_eq s.name t.name) (s.arity == t.arity) e in
    let name : s.name ≡ t.name = (bytes_decides s.name t.name).0 both.0 in
    let arity : s.arity ≡ t.arity = number_same s.arity t.arity both.1 in
    λ i. record { name = name i; arity = arity i }

-- a symbol passes its own test
own_symbol : (s : Symbol) → is_same_symbol s s ≡ true
own_symbol s = and_true _ _ ((bytes_decides s.name s.name).1 refl) (grind (arith, nat_tests))

-- a symbol with its place is found
module _ (tables : Tables) (distinct : AreDistinctSymbols tables.symbols) where
  -- a symbol in the list, by its place
  symbol_at : (n : ℕ) (symbol : Symbol) → slice_get tables.symbols n ≡ Some symbol → symbol_cited tables (named_or_equality (Some symbol)) ≡ Some (suc n)
  unfolding found_symbol
  symbol_at n symbol at =
      let place = own_position is_same_symbol same_symbol own_symbol tables.symbols distinct n symbol at in
      ap (option_map (λ k. k + 1)) place ∙ (let next : n + 1 ≡ suc n = omega arith in ap (λ (k : ℕ). Some k) next)

  -- a symbol that is there is the one that is cited so
  pub symbol_again : (n : ℕ) → n < length tables.symbols + 1 → symbol_cited tables (cited_symbol tables n) ≡ Some n
  symbol_again zero below = refl
  symbol_again (suc n) below = go (slice_get tables.symbols n) refl
    where
      go : (o : Option Symbol) → slice_get tables.symbols n ≡ o → symbol_cited tables (named_or_equality o) ≡ Some (suc n)
      go (Some symbol) at = symbol_at n symbol at
      go None none = absurd (past tables.symbols n (omega arith) none)
        where
          past : (xs : List Symbol) (n : ℕ) → n < length xs → slice_get xs n ≡ None → ⊥
          past [] n below none = absurd (omega arith)
          past (x ∷ xs) zero below none = cc
          past (x ∷ xs) (suc n) below none = past xs n (omega arith) none

  -- so is a built-in axiom
  built_in_again : (names : List Text) (b : built_in.BuiltIn) → BuiltInIsThere (length tables.symbols + 1) b → source_cited names tables (built_in_citation tables b) ≡ Some (BuiltIn b)
  built_in_again names Refl there = refl
  built_in_again names Sym there = refl
  built_in_again names Trans there = refl
  built_in_again names (Sub positive symbol place) there = ap (option_map (λ n. BuiltIn (Sub positive n place))) (symbol_again symbol there)
  built_in_again names (No symbol) there = ap (option_map (λ n. BuiltIn (No n))) (symbol_again symbol there)
  built_in_again names (Or symbol) there = ap (option_map (λ n. BuiltIn (Or n))) (symbol_again symbol there)

  -- a source that is there is the one of the form that is cited so
  pub source_again : (names : List Text) → IsDistinct (pointwise nat_eq) names → (s : source.Source) → SourceIsThere (length names) (length tables.symbols + 1) s
      → source_cited names tables (citation_at names tables s) ≡ Some s
  source_again names once (Formula name rank) there =
      ap (option_map (λ n. Formula n rank))
      (own_position (pointwise nat_eq) (λ x y. (bytes_decides x y).0) (λ x. (bytes_decides x x).1 refl) names once name (name_at names name) (name_there names name there))
  source_again names once (BuiltIn b) there = built_in_again names b there

-- the value that an option's image has
image_is : {X Y : Type 0} (f : X → Y) (o : Option X) (y : Y) → option_map f o ≡ Some y → (x : X) × (o ≡ Some x) × (f x ≡ y)
image_is f None y e = absurd (cc)
image_is f (Some x) y e = (x, refl, value_same e)

-- a symbol that is found is cited so
symbol_found_again : (tables : Tables) (symbol : Cited.Symbol) (n : ℕ) → symbol_cited tables symbol ≡ Some n → cited_symbol tables n ≡ symbol
unfolding found_symbol
symbol_found_again tables cited.Equality n e = let zero_is : 0 ≡ n = value_same e in ap (cited_symbol tables) (sym zero_is)
symbol_found_again tables (cited.Named name arity) n e =
    let found = image_is (λ k. k + 1) (position (is_symbol name arity) tables.symbols) n e in
    let next : n ≡ suc found.0 = let last : found.0 + 1 ≡ n = found.2 in omega arith in
    let at = found_here is_same_symbol same_symbol own_symbol tables.symbols found.0 (record { name = name; arity = arity }) found.1 in
    ap (cited_symbol tables) next ∙ ap named_or_equality at

-- a source that is found says how its form is cited
pub source_found : (names : List Text) (tables : Tables) (c : Citation) (s : source.Source) → source_cited names tables c ≡ Some s → citation_at names tables s ≡ c
source_found names tables (cite.Axiom name rank) s e =
    let found = image_is (λ n. Formula n rank) (found_name names name) s e in
    let at = found_here (pointwise nat_eq) (λ x y. (bytes_decides x y).0) (λ x. (bytes_decides x x).1 refl) names found.0 name found.1 in
    ap (citation_at names tables) (sym found.2) ∙ ap (λ (n : Option Text). cite.Axiom (text_or_empty n) rank) at
source_found names tables cite.Refl s e = ap (citation_at names tables) (sym (value_same e))
source_found names tables cite.Sym s e = ap (citation_at names tables) (sym (value_same e))
source_found names tables cite.Trans s e = ap (citation_at names tables) (sym (value_same e))
source_found names tables (cite.Sub positive symbol place) s e =
    let found = image_is (λ n. BuiltIn (Sub positive n place)) (symbol_cited tables symbol) s e in
    ap (citation_at names tables) (sym found.2) ∙ ap (λ (c : Cited.Symbol). cite.Sub positive c place) (symbol_found_again tables symbol found.0 found.1)
source_found names tables (cite.No symbol) s e =
    let found = image_is (λ n. BuiltIn (No n)) (symbol_cited tables symbol) s e in
    ap (citation_at names tables) (sym found.2) ∙ ap (λ (c : Cited.Symbol). cite.No c) (symbol_found_again tables symbol found.0 found.1)
source_found names tables (cite.Or symbol) s e =
    let found = image_is (λ n. BuiltIn (Or n)) (symbol_cited tables symbol) s e in
    ap (citation_at names tables) (sym found.2) ∙ ap (λ (c : Cited.Symbol). cite.Or c) (symbol_found_again tables symbol found.0 found.1)

-- the item whose image has a number
image_get : {X Y : Type 0} (f : X → Y) (xs : List X) (i : ℕ) (y : Y) → slice_get (map f xs) i ≡ Some y → (x : X) × (slice_get xs i ≡ Some x) × (f x ≡ y)
image_get f [] i y at = absurd (cc)
image_get f (x ∷ xs) zero y at = (x, refl, value_same at)
image_get f (x ∷ xs) (suc i) y at = image_get f xs i y at

-- a member has a number
among_get : {X : Type 0} (x : X) (xs : List X) → IsAmong x xs → (i : ℕ) × (slice_get xs i ≡ Some x)
among_get x [] among = absurd among
among_get x (y ∷ xs) (inl e) = (zero, ap (λ z. Some z) e)
among_get x (y ∷ xs) (inr among) = let rest = among_get x xs among in (suc rest.0, rest.1)

-- the forms that are cited, where names, symbols and sources are there once
module _ (names : List Text) (tables : Tables) (all : List source.Source) (names_once : IsDistinct (pointwise nat_eq) names)
    (symbols_once : AreDistinctSymbols tables.symbols) (there : AllByRecursion (SourceIsThere (length names) (length tables.symbols + 1)) all) (c : Citation) where
  -- a form that is cited so comes from the source that is found
  cited_from : (form : ℕ) → slice_get (map (citation_at names tables) all) form ≡ Some c → (s : source.Source) × (slice_get all form ≡ Some s) × (source_cited names tables c ≡ Some s)
  cited_from form at =
      let image = image_get (citation_at names tables) all form c at in
      let here = each_get (SourceIsThere (length names) (length tables.symbols + 1)) all form image.0 there image.1 in
      (image.0, image.1, ap (source_cited names tables) (sym image.2) ∙ source_again tables symbols_once names names_once image.0 here)

  -- the number of a source that is found is that of its form
  numbered_so : (s : source.Source) → source_cited names tables c ≡ Some s → IsDistinct is_same_source all → (form : ℕ)
      → slice_get (map (citation_at names tables) all) form ≡ Some c → position (is_same_source s) all ≡ Some form
  numbered_so s is once form at =
      let from = cited_from form at in
      let same : from.0 ≡ s = value_same (sym from.2 ∙ is) in
      own_position is_same_source same_source own_source all once form s (from.1 ∙ ap (λ (t : source.Source). Some t) same)

  -- no two forms are cited so
  pub cited_once : IsDistinct is_same_source all → (a b : ℕ) → slice_get (map (citation_at names tables) all) a ≡ Some c
      → slice_get (map (citation_at names tables) all) b ≡ Some c → a ≡ b
  cited_once once a b here there =
      let from = cited_from a here in
      value_same (sym (numbered_so from.0 from.2 once a here) ∙ numbered_so from.0 from.2 once b there)

  -- where no source is found, no form is cited so
  pub none_cited : source_cited names tables c ≡ None → IsAmong c (map (citation_at names tables) all) → ⊥
  none_cited none among =
      let at = among_get c (map (citation_at names tables) all) among in
      let found = (cited_from at.0 at.1).2 in cc

  module _ (s : source.Source) (is : source_cited names tables c ≡ Some s) where
    -- where the source is found, its form is cited so
    pub form_found : (form : ℕ) → position (is_same_source s) all ≡ Some form → slice_get (map (citation_at names tables) all) form ≡ Some c
    form_found form found =
        map_get (citation_at names tables) all form s (found_here is_same_source same_source own_source all form s found)
        ∙ ap (λ (d : Citation). Some d) (source_found names tables c s is)

    -- a form that is cited so is found
    cited_found : IsDistinct is_same_source all → (form : ℕ) → slice_get (map (citation_at names tables) all) form ≡ Some c → position (is_same_source s) all ≡ Some form
    cited_found once form at = numbered_so s is once form at

    -- and no other form is
    pub form_one : IsDistinct is_same_source all → (form : ℕ) → position (is_same_source s) all ≡ Some form
        → (other : ℕ) → slice_get (map (citation_at names tables) all) other ≡ Some c → other ≡ form
    form_one once form found other at = value_same (sym (cited_found once other at) ∙ found)

    -- where the source has no form, no form is cited so
    pub form_none : IsDistinct is_same_source all → position (is_same_source s) all ≡ None → IsAmong c (map (citation_at names tables) all) → ⊥
    form_none once none among =
        let at = among_get c (map (citation_at names tables) all) among in
        let found = cited_found once at.0 at.1 in cc
