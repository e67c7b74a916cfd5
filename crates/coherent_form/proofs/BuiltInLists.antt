-- Which built-in axioms forms have: what holds of each, that none comes twice, and how many there are.
use Rattle.std.proofs.Common.{◌≡◌, ℕ, ◌+◌, ◌*◌, ◌<◌, ◌≤◌, ◌==◌, Bool, true, false, if◌then◌else◌, List, [], ◌∷◌, ◌++◌, length, slice_get, Some, refl, ap, sym, ◌∙◌, arith, add-one, append_assoc, length-append}
use Rattle.std.proofs.lemmas.List.{length-map}
use Rattle.std.proofs.lemmas.List.Sums.{sum_by-cons}
use Rattle.std.specs.List.{AllByRecursion, flat_map, sum_by}
use Rattle.text_core.specs.Numbered.{Symbol, Tables}
use Rattle.text_core.proofs.Laws.{each_append, get_behind}
use Rattle.logic_core.specs.declared.form.Form.{Form}
use Rattle.vernacular_tree.specs.Contexts.{counted}
use Rattle.coherent_form.specs.BuiltIns.{arity_or_zero, arity_in, occurs, is_equation, is_negated, subs_of, subs, complements, symbol_numbers, built_ins}
use Rattle.coherent_form.specs.Tasks.{places}
use Rattle.coherent_form.specs.declared.source.BuiltIn.{BuiltIn}
use Rattle.coherent_form.specs.declared.source.BuiltIn.TheVariants.{Refl, Sym, Trans, Sub, No, Or}
use Rattle.coherent_form.proofs.Counted.{length-counted, each_counted, each_image, each_flat_map, each_if, AreApart, apart_append, apart_if, new_by, apart_images, apart_lists, length-if-le, length-pairs-le}

module _ (tables : Tables) (forms : List Form) where
  -- what holds of each
  module _ (P : BuiltIn → Type 0) where
    -- of those that keep a symbol, or its complement, to equality
    each_sub_of : (positive : Bool) (symbol : ℕ) → ((place : ℕ) → 1 ≤ place → place ≤ arity_in tables symbol → P (Sub positive symbol place))
        → AllByRecursion P (subs_of tables forms positive symbol)
    each_sub_of positive symbol has = each_image P (Sub positive symbol) (counted 1 (arity_in tables symbol))
        (each_counted (λ place. P (Sub positive symbol place)) 1 (arity_in tables symbol) (λ place low high. has place low (omega arith)))

    -- of those of a symbol and of its complement
    each_sub : (symbol : ℕ) → ((positive : Bool) (place : ℕ) → 1 ≤ place → place ≤ arity_in tables symbol → P (Sub positive symbol place))
        → AllByRecursion P (subs tables forms symbol)
    each_sub symbol has = each_append P (if symbol == 0 then [] else subs_of tables forms true symbol) (if is_negated tables forms symbol then subs_of tables forms false symbol else [])
        (each_if P (symbol == 0) [] (subs_of tables forms true symbol) tt (each_sub_of true symbol (has true)))
        (each_if P (is_negated tables forms symbol) (subs_of tables forms false symbol) [] (each_sub_of false symbol (has false)) tt)

    -- of those of complements
    each_complement : (symbol : ℕ) → P (No symbol) → P (Or symbol) → AllByRecursion P (complements tables forms symbol)
    each_complement symbol excluded either = each_if P (is_negated tables forms symbol) (No symbol ∷ Or symbol ∷ []) [] (excluded, (either, tt)) tt

    -- of lists that are made over all symbols
    each_symbol : (f : ℕ → List BuiltIn) → ((symbol : ℕ) → symbol < length tables.symbols + 1 → AllByRecursion P (f symbol))
        → AllByRecursion P (flat_map f (symbol_numbers tables forms))
    each_symbol f has = each_flat_map P f (symbol_numbers tables forms)
        (each_counted (λ n. AllByRecursion P (f n)) 0 (length tables.symbols + 1) (λ n low high. has n (omega arith)))

    -- of those of equality
    each_equality : P Refl → P Sym → P Trans
        → ((positive : Bool) (symbol place : ℕ) → symbol < length tables.symbols + 1 → 1 ≤ place → place ≤ arity_in tables symbol → P (Sub positive symbol place))
        → AllByRecursion P (Refl ∷ Sym ∷ Trans ∷ flat_map (subs tables forms) (symbol_numbers tables forms))
    each_equality reflexive symmetric transitive kept = (
      reflexive,
      (
        symmetric,
        (
          transitive,
          each_symbol (subs tables forms) (λ symbol there. each_sub symbol (λ positive place low high. kept positive symbol place there low high)),
        ),
      ),
    )

    -- of all
    pub each_built_in : P Refl → P Sym → P Trans
        → ((positive : Bool) (symbol place : ℕ) → symbol < length tables.symbols + 1 → 1 ≤ place → place ≤ arity_in tables symbol → P (Sub positive symbol place))
        → ((symbol : ℕ) → symbol < length tables.symbols + 1 → P (No symbol)) → ((symbol : ℕ) → symbol < length tables.symbols + 1 → P (Or symbol))
        → AllByRecursion P (built_ins tables forms)
    each_built_in reflexive symmetric transitive kept excluded either = each_append P
        (if occurs is_equation forms then Refl ∷ Sym ∷ Trans ∷ flat_map (subs tables forms) (symbol_numbers tables forms) else [])
        (flat_map (complements tables forms) (symbol_numbers tables forms))
        (each_if P (occurs is_equation forms) (Refl ∷ Sym ∷ Trans ∷ flat_map (subs tables forms) (symbol_numbers tables forms)) []
        (each_equality reflexive symmetric transitive kept) tt)
        (each_symbol (complements tables forms) (λ symbol there. each_complement symbol (excluded symbol there) (either symbol there)))

-- what tells two built-in axioms apart: the kind
kind_of : BuiltIn → ℕ
kind_of Refl = 0
kind_of Sym = 1
kind_of Trans = 2
kind_of (Sub positive symbol place) = 3
kind_of (No symbol) = 4
kind_of (Or symbol) = 5

-- the symbol
symbol_of : BuiltIn → ℕ
symbol_of (Sub positive symbol place) = symbol
symbol_of (No symbol) = symbol
symbol_of (Or symbol) = symbol
symbol_of _ = 0

-- the sign
sign_of : BuiltIn → ℕ
sign_of (Sub true symbol place) = 0
sign_of _ = 1

-- the place
place_of : BuiltIn → ℕ
place_of (Sub positive symbol place) = place
place_of _ = 0

module _ (tables : Tables) (forms : List Form) where
  -- those that keep a symbol, or its complement, to equality
  apart_sub_of : (positive : Bool) (symbol : ℕ) → AreApart (subs_of tables forms positive symbol)
  unfolding place_of
  apart_sub_of positive symbol = apart_images place_of (Sub positive symbol) (λ place. refl) 1 (arity_in tables symbol)

  -- those of a symbol and of its complement
  apart_sub : (symbol : ℕ) → AreApart (subs tables forms symbol)
  unfolding sign_of
  apart_sub symbol = apart_append (if symbol == 0 then [] else subs_of tables forms true symbol) (if is_negated tables forms symbol then subs_of tables forms false symbol else [])
      (apart_if (symbol == 0) [] (subs_of tables forms true symbol) tt (apart_sub_of true symbol))
      (apart_if (is_negated tables forms symbol) (subs_of tables forms false symbol) [] (apart_sub_of false symbol) tt)
      (new_by sign_of 1 (if symbol == 0 then [] else subs_of tables forms true symbol) (if is_negated tables forms symbol then subs_of tables forms false symbol else [])
      (each_if (λ b. sign_of b < 1) (symbol == 0) [] (subs_of tables forms true symbol) tt (each_sub_of tables forms (λ b. sign_of b < 1) true symbol (λ place low high. omega arith)))
      (each_if (λ b. 1 ≤ sign_of b) (is_negated tables forms symbol) (subs_of tables forms false symbol) [] (each_sub_of tables forms (λ b. 1 ≤ sign_of b) false symbol (λ place low high. omega arith)) tt))

  -- those that keep all symbols and complements to equality
  apart_subs : AreApart (flat_map (subs tables forms) (symbol_numbers tables forms))
  unfolding symbol_of
  apart_subs = apart_lists symbol_of (subs tables forms) (λ n. each_sub tables forms (λ b. symbol_of b ≡ n) n (λ positive place low high. refl)) apart_sub
      0 (length tables.symbols + 1)

  -- those of all complements
  apart_complements : AreApart (flat_map (complements tables forms) (symbol_numbers tables forms))
  unfolding symbol_of
  apart_complements = apart_lists symbol_of (complements tables forms) (λ n. each_complement tables forms (λ b. symbol_of b ≡ n) n refl refl)
      (λ n. apart_if (is_negated tables forms n) (No n ∷ Or n ∷ []) [] ((λ same. absurd (cc), tt), (tt, tt)) tt)
      0 (length tables.symbols + 1)

  -- those of equality
  apart_equality : AreApart (Refl ∷ Sym ∷ Trans ∷ flat_map (subs tables forms) (symbol_numbers tables forms))
  unfolding kind_of
  apart_equality =
      let kept = each_symbol tables forms (λ b. 3 ≤ kind_of b) (subs tables forms)
      (λ symbol there. each_sub tables forms (λ b. 3 ≤ kind_of b) symbol (λ positive place low high. omega arith)) in
      let later = λ (b : BuiltIn) (below : kind_of b < 3). (new_by kind_of 3 (b ∷ []) (flat_map (subs tables forms) (symbol_numbers tables forms)) (below, tt) kept).0 in (
        (λ same. absurd (cc), (λ same. absurd (cc), later Refl (omega arith))),
        (
          (λ same. absurd (cc), later Sym (omega arith)),
          (later Trans (omega arith), apart_subs),
        ),
      )

  -- no built-in axiom comes twice
  pub apart_built_ins : AreApart (built_ins tables forms)
  unfolding kind_of
  apart_built_ins = apart_append
      (if occurs is_equation forms then Refl ∷ Sym ∷ Trans ∷ flat_map (subs tables forms) (symbol_numbers tables forms) else [])
      (flat_map (complements tables forms) (symbol_numbers tables forms))
      (apart_if (occurs is_equation forms) (Refl ∷ Sym ∷ Trans ∷ flat_map (subs tables forms) (symbol_numbers tables forms)) [] apart_equality tt)
      apart_complements
      (new_by kind_of 4
      (if occurs is_equation forms then Refl ∷ Sym ∷ Trans ∷ flat_map (subs tables forms) (symbol_numbers tables forms) else [])
      (flat_map (complements tables forms) (symbol_numbers tables forms))
      (each_if (λ b. kind_of b < 4) (occurs is_equation forms) (Refl ∷ Sym ∷ Trans ∷ flat_map (subs tables forms) (symbol_numbers tables forms)) []
      (each_equality tables forms (λ b. kind_of b < 4) (omega arith) (omega arith) (omega arith) (λ positive symbol place there low high. omega arith)) tt)
      (each_symbol tables forms (λ b. 4 ≤ kind_of b) (complements tables forms)
      (λ symbol there. each_complement tables forms (λ b. 4 ≤ kind_of b) symbol (omega arith) (omega arith))))

  -- those that keep a symbol to equality are as many as it has places
  length-sub_of : (positive : Bool) (symbol : ℕ) → length (subs_of tables forms positive symbol) ≡ arity_in tables symbol
  length-sub_of positive symbol = length-map (counted 1 (arity_in tables symbol)) (Sub positive symbol) ∙ length-counted 1 (arity_in tables symbol)

  -- those of a symbol and of its complement are twice as many at most
  length-sub-le : (symbol : ℕ) → length (subs tables forms symbol) ≤ 2 * arity_in tables symbol
  length-sub-le symbol =
      let both = length-append (if symbol == 0 then [] else subs_of tables forms true symbol) (if is_negated tables forms symbol then subs_of tables forms false symbol else []) in
      let p = length-sub_of true symbol in
      let n = length-sub_of false symbol in
      let first = length-if-le (symbol == 0) [] (subs_of tables forms true symbol) (arity_in tables symbol) (omega arith) (omega arith) in
      let second = length-if-le (is_negated tables forms symbol) (subs_of tables forms false symbol) [] (arity_in tables symbol) (omega arith) (omega arith) in
      omega arith

  -- those of the named symbols behind a front
  length-subs_behind-le : (front rest : List Symbol) → tables.symbols ≡ front ++ rest
      → length (flat_map (subs tables forms) (counted (length front + 1) (length rest))) ≤ 2 * sum_by (λ symbol. symbol.arity) rest
  length-subs_behind-le front [] is = omega arith
  length-subs_behind-le front (s ∷ rest) is =
      let at : slice_get tables.symbols (length front) ≡ Some s = ap (λ (symbols : List Symbol). slice_get symbols (length front)) is ∙ get_behind front s rest in
      let arity : arity_in tables (length front + 1) ≡ s.arity = rw add-one (ap arity_or_zero at) in
      let here = length-sub-le (length front + 1) in
      let longer : length (front ++ s ∷ []) ≡ length front + 1 = length-append front (s ∷ []) in
      let later = length-subs_behind-le (front ++ s ∷ []) rest (is ∙ sym (append_assoc front (s ∷ []) rest)) in
      let next : length (flat_map (subs tables forms) (counted (length (front ++ s ∷ []) + 1) (length rest)))
      ≡ length (flat_map (subs tables forms) (counted ((length front + 1) + 1) (length rest)))
      = ap (λ (n : ℕ). length (flat_map (subs tables forms) (counted (n + 1) (length rest)))) longer in
      let both = length-append (subs tables forms (length front + 1)) (flat_map (subs tables forms) (counted ((length front + 1) + 1) (length rest))) in
      let sum = sum_by-cons (λ (symbol : Symbol). symbol.arity) s rest in
      omega arith

  -- those that keep all symbols to equality
  length-subs-le : length (flat_map (subs tables forms) (symbol_numbers tables forms)) ≤ 2 * (places tables + 2)
  length-subs-le =
      let here = length-sub-le 0 in
      let later = length-subs_behind-le [] tables.symbols refl in
      let both = length-append (subs tables forms 0) (flat_map (subs tables forms) (counted (0 + 1) (length tables.symbols))) in
      let all : length (flat_map (subs tables forms) (symbol_numbers tables forms))
      ≡ length (subs tables forms 0 ++ flat_map (subs tables forms) (counted (0 + 1) (length tables.symbols)))
      = rw (add-one (length tables.symbols)) refl in
      omega arith

  -- how many built-in axioms there are
  pub built_ins_few : length (built_ins tables forms) ≤ 3 + 2 * (places tables + 2) + 2 * (length tables.symbols + 1)
  built_ins_few =
      let kept = length-subs-le in
      let first = length-if-le (occurs is_equation forms) (Refl ∷ Sym ∷ Trans ∷ flat_map (subs tables forms) (symbol_numbers tables forms)) []
      (3 + 2 * (places tables + 2)) (omega arith) (omega arith) in
      let second = length-pairs-le (complements tables forms)
      (λ symbol. length-if-le (is_negated tables forms symbol) (No symbol ∷ Or symbol ∷ []) [] 2 (omega arith) (omega arith)) 0 (length tables.symbols + 1) in
      let both = length-append (if occurs is_equation forms then Refl ∷ Sym ∷ Trans ∷ flat_map (subs tables forms) (symbol_numbers tables forms) else [])
      (flat_map (complements tables forms) (symbol_numbers tables forms)) in
      omega arith
