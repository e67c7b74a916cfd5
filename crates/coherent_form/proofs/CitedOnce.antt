-- No two forms of a problem's task are cited in the same way: ranks under one name go on, and built-in axioms differ.
use Rattle.std.proofs.Common.{◌≡◌, ℕ, zero, suc, ◌+◌, ◌≤◌, Bool, true, false, if◌then◌else◌, List, [], ◌∷◌, ◌++◌, map, length, slice_get, Some, refl, ap, sym, subst, ◌∙◌, arith}
use Rattle.std.proofs.lemmas.Map.Keys.{IsDistinct-push}
use Rattle.std.proofs.lemmas.Slice.Eq.{bytes_eq-Decides}
use Rattle.std.proofs.lemmas.Cmp.{nat_eq_equiv, nat_list_eq_equiv}
use Rattle.std.specs.Prelude.{unwrap_or, nat_eq, ◌==◌, ◌&&◌}
use Rattle.std.specs.Cmp.{IsEquivalence}
use Rattle.std.specs.Cmp.Lexicographic.{pointwise}
use Rattle.std.specs.List.{AllByRecursion, IsDistinct, list_any}
use Rattle.std.specs.Str.{bytes_eq}
use Rattle.text_core.specs.Names.{Text}
use Rattle.text_core.specs.Numbered.{Symbol, Tables}
use Rattle.text_core.proofs.Laws.{each_map, each_append, each_get, value_same, and_both}
use Rattle.signature.specs.Numbers.{AreDistinctSymbols, is_symbol, with_symbol}
use Rattle.logic_core.specs.declared.formula.Term.{Term}
use Rattle.logic_core.specs.declared.formula.Term.TheVariants.{Variable, Constant}
use Rattle.logic_core.specs.declared.formula.Formula.{Formula, True, False, Pred, Equal, Not', And', Or', Binary', ForAll', Exists', Row_of-Formula, end_of-Formula, more_of-Formula}
use Rattle.logic_core.specs.declared.form.Form.{Form}
use Rattle.logic_core.specs.declared.problem.Fof.{Fof}
use Rattle.vernacular_tree.specs.Contexts.{counted}
use Rattle.coherent_form.specs.BuiltIns.{built_ins, built_in_citation}
use Rattle.coherent_form.specs.Citing.{source_cited}
use Rattle.coherent_form.specs.Kept.{BuiltInIsThere}
use Rattle.coherent_form.specs.Labels.{how_many}
use Rattle.coherent_form.specs.Reading.{with_term, with_terms, with_predicate, with_names, with_names_of}
use Rattle.coherent_form.specs.Tasks.{CitedTask, Progress, nothing_read, no_goal, is_named, further, forms_behind, after_formula, after_formulas, task_of, IsTaskOf}
use Rattle.coherent_form.specs.declared.citation.Citation.{Citation}
use Rattle.coherent_form.specs.declared.citation.Citation.TheVariants as cite
use Rattle.coherent_form.specs.declared.source.BuiltIn.{BuiltIn}
use Rattle.coherent_form.specs.declared.source.BuiltIn.TheVariants.{Refl, Sym, Trans, Sub, No, Or}
use Rattle.coherent_form.specs.declared.source.Source.TheVariants as from
use Rattle.coherent_form.proofs.BuiltInForms.{built_ins_there}
use Rattle.coherent_form.proofs.BuiltInLists.{apart_built_ins}
use Rattle.coherent_form.proofs.Cites.{source_again}
use Rattle.coherent_form.proofs.Counted.{IsNew, AreApart, length-counted, each_counted, each_image, apart_append, apart_images}
use Rattle.coherent_form.proofs.Following.{after_by}
use Rattle.coherent_form.proofs.Names.{symbol_passes}

-- members that differ

-- one of them has one place
apart_one : {X : Type 0} (xs : List X) → AreApart xs → (x : X) (a b : ℕ) → slice_get xs a ≡ Some x → slice_get xs b ≡ Some x → a ≡ b
apart_one [] apart x a b at also = absurd (cc)
apart_one (y ∷ ys) apart x zero zero at also = refl
apart_one (y ∷ ys) apart x zero (suc b) at also =
    absurd (each_get (λ z. z ≡ y → ⊥) ys b x apart.0 also (let same : y ≡ x = value_same at in sym same))
apart_one (y ∷ ys) apart x (suc a) zero at also =
    absurd (each_get (λ z. z ≡ y → ⊥) ys a x apart.0 at (let same : y ≡ x = value_same also in sym same))
apart_one (y ∷ ys) apart x (suc a) (suc b) at also = ap suc (apart_one ys apart.1 x a b at also)

-- each member has what everything has
each_of : {X : Type 0} (P : X → Type 0) → ((x : X) → P x) → (xs : List X) → AllByRecursion P xs
each_of P h [] = tt
each_of P h (x ∷ xs) = (h x, each_of P h xs)

-- the images of those that have P, by a function that tells such members apart
module _ {X Y : Type 0} (P : X → Type 0) (f : X → Y) (tells : (x y : X) → P x → P y → f x ≡ f y → x ≡ y) where
  -- an image is not among those of other ones
  new_image : (x : X) (ys : List X) → P x → AllByRecursion P ys → IsNew x ys → IsNew (f x) (map f ys)
  new_image x [] here each new = tt
  new_image x (y ∷ ys) here each new = ((λ same. new.0 (tells y x each.0 here same)), new_image x ys here each.1 new.1)

  -- images of members that differ do so
  apart_map : (xs : List X) → AllByRecursion P xs → AreApart xs → AreApart (map f xs)
  apart_map [] each apart = tt
  apart_map (x ∷ xs) each apart = (new_image x xs each.0 each.1 apart.0, apart_map xs each.1 apart.1)

-- how many pass, of two lists
how_many-append : {X : Type 0} (test : X → Bool) (xs ys : List X) → how_many test (xs ++ ys) ≡ how_many test xs + how_many test ys
how_many-append test [] ys = omega arith
how_many-append test (x ∷ xs) ys = let rest = how_many-append test xs ys in omega arith

-- citations with ranks

-- the rank of a formula's form is at most how many there are under its name
abbrev IsRanked : List Citation → Citation → Type 0
IsRanked all (cite.Axiom name rank) = rank ≤ how_many (is_named name) all
IsRanked all _ = ⊥

-- it stays so where there are more
ranked_longer : (all more : List Citation) (c : Citation) → IsRanked all c → IsRanked (all ++ more) c
ranked_longer all more (cite.Axiom name rank) h = let both = how_many-append (is_named name) all more in omega arith
ranked_longer all more cite.Refl h = absurd h
ranked_longer all more cite.Sym h = absurd h
ranked_longer all more cite.Trans h = absurd h
ranked_longer all more (cite.Sub positive symbol place) h = absurd h
ranked_longer all more (cite.No symbol) h = absurd h
ranked_longer all more (cite.Or symbol) h = absurd h

-- a built-in axiom has no rank
built_in_unranked : (tables : Tables) (all : List Citation) (b : BuiltIn) → IsRanked all (built_in_citation tables b) → ⊥
built_in_unranked tables all Refl h = h
built_in_unranked tables all Sym h = h
built_in_unranked tables all Trans h = h
built_in_unranked tables all (Sub positive symbol place) h = h
built_in_unranked tables all (No symbol) h = h
built_in_unranked tables all (Or symbol) h = h

-- the rank in a citation
rank_of : Citation → ℕ
rank_of (cite.Axiom name rank) = rank
rank_of _ = 0

-- further citations of a name
module _ (old : List Citation) (name : Text) (count : ℕ) where
  -- they are all of that name
  named_all : (ranks : List ℕ) → how_many (is_named name) (map (cite.Axiom name) ranks) ≡ length ranks
  named_all [] = refl
  named_all (rank ∷ ranks) =
      let own : bytes_eq name name ≡ true = (bytes_eq-Decides name name).1 refl in let rest = named_all ranks in rw own (omega arith)

  -- their ranks are at most how many there are with them
  further_ranked : AllByRecursion (IsRanked (old ++ further name old count)) (further name old count)
  further_ranked =
      let first : ℕ = how_many (is_named name) old + 1 in
      let both = how_many-append (is_named name) old (further name old count) in
      let more = named_all (counted first count) in
      let long = length-counted first count in
      each_image (IsRanked (old ++ further name old count)) (cite.Axiom name) (counted first count)
      (each_counted (λ rank. rank ≤ how_many (is_named name) (old ++ further name old count)) first count (λ rank low high. omega arith))

  -- they are not there
  further_new : AllByRecursion (IsRanked old) old → AllByRecursion (λ c. IsNew c (further name old count)) old
  further_new ranked =
      let first : ℕ = how_many (is_named name) old + 1 in
      each_map {Q = λ c. IsNew c (further name old count)} (λ c here. each_image (λ d. d ≡ c → ⊥) (cite.Axiom name) (counted first count)
      (each_counted (λ rank. cite.Axiom name rank ≡ c → ⊥) first count
      (λ rank low high same. let below : rank ≤ how_many (is_named name) old = subst (IsRanked old) (sym same) here in absurd (omega arith)))) old ranked

  -- and differ from one another
  further_apart : AreApart (further name old count)
  unfolding rank_of
  further_apart = apart_images rank_of (cite.Axiom name) (λ rank. refl) (how_many (is_named name) old + 1) count

-- symbols

-- whether two symbols are the same, by their names and arities
abbrev is_same : Symbol → Symbol → Bool
is_same s t = is_symbol s.name s.arity t

-- it is an equivalence
same_equivalence : IsEquivalence is_same
same_equivalence = record {
  refl = λ s. symbol_passes s.name s.arity;
  symm = λ s t i. nat_list_eq_equiv.symm s.name t.name i && nat_eq_equiv.symm s.arity t.arity i;
  congr = λ s t u e. let both = and_both (pointwise nat_eq s.name t.name) (s.arity == t.arity) e in
      λ i. nat_list_eq_equiv.congr s.name t.name u.name both.0 i && nat_eq_equiv.congr s.arity t.arity u.arity both.1 i;
}

-- a symbol that is not there goes last
distinct_with_symbol : (symbols : List Symbol) (p : Text) (n : ℕ) → AreDistinctSymbols symbols → AreDistinctSymbols (with_symbol symbols p n)
unfolding with_symbol
distinct_with_symbol symbols p n distinct = go (list_any (is_symbol p n) symbols) refl
  where
    last : Symbol
    last = record { name = p; arity = n }

    go : (b : Bool) → list_any (is_symbol p n) symbols ≡ b → AreDistinctSymbols (if b then symbols else symbols ++ last ∷ [])
    go true any = distinct
    go false none = IsDistinct-push same_equivalence symbols last distinct none

-- terms have no symbols
with_terms_symbols : (tables : Tables) (ts : List Term) → (with_terms tables ts).symbols ≡ tables.symbols
with_terms_symbols tables [] = refl
with_terms_symbols tables (Variable x ∷ ts) = with_terms_symbols tables ts
with_terms_symbols tables (Constant c ∷ ts) = with_terms_symbols (with_term tables (Constant c)) ts

mutual
  -- the symbols of tables differ with those of a formula
  distinct_with_names : (f : Formula) (tables : Tables) → AreDistinctSymbols tables.symbols → AreDistinctSymbols (with_names f tables).symbols
  distinct_with_names True tables distinct = distinct
  distinct_with_names False tables distinct = distinct
  distinct_with_names (Pred p ts) tables distinct =
      subst AreDistinctSymbols (sym (with_terms_symbols (with_predicate tables p (length ts)) ts)) (distinct_with_symbol tables.symbols p (length ts) distinct)
  distinct_with_names (Equal t u) tables distinct = subst AreDistinctSymbols (sym (with_terms_symbols tables (t ∷ u ∷ []))) distinct
  distinct_with_names (Not' _ (more_of-Formula g _)) tables distinct = distinct_with_names g tables distinct
  distinct_with_names (And' _ members) tables distinct = distinct_with_names_of members tables distinct
  distinct_with_names (Or' _ members) tables distinct = distinct_with_names_of members tables distinct
  distinct_with_names (Binary' op _ (more_of-Formula g _) _ (more_of-Formula h _)) tables distinct =
      distinct_with_names h (with_names g tables) (distinct_with_names g tables distinct)
  distinct_with_names (ForAll' xs _ (more_of-Formula g _)) tables distinct = distinct_with_names g tables distinct
  distinct_with_names (Exists' xs _ (more_of-Formula g _)) tables distinct = distinct_with_names g tables distinct

  -- and with those of formulas in order
  distinct_with_names_of : {n : _} (members : Row_of-Formula n) (tables : Tables) → AreDistinctSymbols tables.symbols
      → AreDistinctSymbols (with_names_of members tables).symbols
  distinct_with_names_of end_of-Formula tables distinct = distinct
  distinct_with_names_of (more_of-Formula g rest) tables distinct =
      distinct_with_names_of rest (with_names g tables) (distinct_with_names g tables distinct)

-- what was read

-- its symbols are there once, its citations differ, and their ranks are counted
record AreOnce (p : Progress) : Type 0 where
  symbols : AreDistinctSymbols p.tables.symbols
  apart : AreApart p.citations
  ranked : AllByRecursion (IsRanked p.citations) p.citations

-- before the first formula nothing is there
nothing_once : AreOnce nothing_read
unfolding IsDistinct
nothing_once = record { symbols = tt; apart = tt; ranked = tt }

-- so it is behind a formula
once_after : (p : Progress) (fof : Fof) → AreOnce p → AreOnce (after_formula p fof)
once_after p fof once = after_by p fof AreOnce
    (λ is_one. record { symbols = distinct_with_names fof.formula p.tables once.symbols; apart = once.apart; ranked = once.ranked })
    (λ not_one. let more = further fof.name p.citations (length (forms_behind p fof)) in record {
      symbols = distinct_with_names fof.formula p.tables once.symbols;
      apart = apart_append p.citations more once.apart (further_apart p.citations fof.name (length (forms_behind p fof)))
          (further_new p.citations fof.name (length (forms_behind p fof)) once.ranked);
      ranked = each_append (IsRanked (p.citations ++ more)) p.citations more
          (each_map {Q = IsRanked (p.citations ++ more)} (ranked_longer p.citations more) p.citations once.ranked)
          (further_ranked p.citations fof.name (length (forms_behind p fof)));
    })

-- and behind formulas
once_after_all : (p : Progress) (fofs : List Fof) → AreOnce p → AreOnce (after_formulas p fofs)
once_after_all p [] once = once
once_after_all p (fof ∷ fofs) once = once_after_all (after_formula p fof) fofs (once_after p fof once)

-- the built-in axioms

module _ (tables : Tables) (distinct : AreDistinctSymbols tables.symbols) where
  -- those that are cited in the same way are the same
  citation_tells : (b c : BuiltIn) → BuiltInIsThere (length tables.symbols + 1) b → BuiltInIsThere (length tables.symbols + 1) c
      → built_in_citation tables b ≡ built_in_citation tables c → b ≡ c
  unfolding IsDistinct
  citation_tells b c here there same =
      let first = source_again tables distinct [] tt (from.BuiltIn b) here in
      let second = source_again tables distinct [] tt (from.BuiltIn c) there in
      let sources : from.BuiltIn b ≡ from.BuiltIn c = value_same (sym first ∙ ap (source_cited [] tables) same ∙ second) in cc

  -- so all are cited in other ways
  apart_citations : (forms : List Form) → AreApart (map (built_in_citation tables) (built_ins tables forms))
  apart_citations forms = apart_map (BuiltInIsThere (length tables.symbols + 1)) (built_in_citation tables) citation_tells (built_ins tables forms)
      (built_ins_there tables forms) (apart_built_ins tables forms)

-- no two forms of what was read are cited in the same way
apart_task : (p : Progress) → AreOnce p → AreApart (task_of p).citations
apart_task p once =
    let axioms = built_ins p.tables (unwrap_or p.goal no_goal ∷ p.forms) in
    apart_append p.citations (map (built_in_citation p.tables) axioms) once.apart (apart_citations p.tables once.symbols (unwrap_or p.goal no_goal ∷ p.forms))
    (each_map {Q = λ c. IsNew c (map (built_in_citation p.tables) axioms)} (λ c ranked. each_image (λ d. d ≡ c → ⊥) (built_in_citation p.tables) axioms
    (each_of (λ b. built_in_citation p.tables b ≡ c → ⊥) (λ b same. built_in_unranked p.tables p.citations b (subst (IsRanked p.citations) (sym same) ranked)) axioms))
    p.citations once.ranked)

-- nor are two of a problem's task
pub cited_once : (problem : List Fof) (task : CitedTask) → IsTaskOf problem task → (cite : Citation) (a b : ℕ)
    → slice_get task.citations a ≡ Some cite → slice_get task.citations b ≡ Some cite → a ≡ b
cited_once problem task is cite a b at also = apart_one task.citations
    (subst (λ (t : CitedTask). AreApart t.citations) (sym is.task_is) (apart_task (after_formulas nothing_read problem) (once_after_all nothing_read problem nothing_once)))
    cite a b at also
