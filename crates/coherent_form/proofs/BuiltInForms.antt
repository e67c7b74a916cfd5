-- The forms of built-in axioms: they are well-formed, fit their tables, and have variables.
use Rattle.std.proofs.Common.{◌≡◌, ℕ, zero, suc, ◌+◌, ◌-◌, ◌/◌, ◌%◌, ◌<◌, ◌≤◌, ◌==◌, Bool, true, false, if◌then◌else◌, List, [], ◌∷◌, ◌++◌, map, length, slice_get, refl, ap, ◌∙◌, arith}
use Rattle.std.specs.Prelude.{codes}
use Rattle.std.specs.Fmt.{digits, digits_onto, digit_glyph, decimal}
use Rattle.std.proofs.lemmas.Bool.Decides.{nat_tests}
use Rattle.std.proofs.lemmas.List.{length-map}
use Rattle.std.specs.List.{AllByRecursion, list_all}
use Rattle.text_core.specs.declared.limits.TheConstants.{MOST_ARGUMENTS}
use Rattle.text_core.specs.Names.{is_word}
use Rattle.text_core.specs.NameTexts.{is_upper_word}
use Rattle.text_core.specs.Numbered.{Symbol, Tables}
use Rattle.text_core.proofs.Laws.{and_true}
use Rattle.logic_core.specs.Forms.{SlotIsBelow, IsWellFormed}
use Rattle.logic_core.specs.declared.form.Slot.TheVariants.{Variable}
use Rattle.logic_core.specs.declared.form.Form.{Form}
use Rattle.vernacular_tree.specs.Contexts.{counted}
use Rattle.coherent_form.specs.BuiltIns.{arity_or_zero, arity_in, equation, with_place, built_in_form, built_in_names, built_ins}
use Rattle.coherent_form.specs.Fitting.{AtomFits, FormFits}
use Rattle.coherent_form.specs.Kept.{AreVariablesOf, BuiltInIsThere}
use Rattle.coherent_form.specs.declared.source.BuiltIn.TheVariants.{Refl, Sym, Trans, Sub, No, Or}
use Rattle.coherent_form.proofs.Counted.{length-counted, each_counted, each_image}
use Rattle.coherent_form.proofs.BuiltInLists.{each_built_in}

-- the number that a test takes is below a bound
taken_below : (b : Bool) (v other bound : ℕ) → v < bound → other < bound → (if b then other else v) < bound
taken_below true v other bound p q = q
taken_below false v other bound p q = p

-- variables in a row are below their bound
row_below : (constants n bound : ℕ) → n ≤ bound → AllByRecursion (SlotIsBelow bound constants) (map Variable (counted 0 n))
row_below constants n bound h = each_image (SlotIsBelow bound constants) Variable (counted 0 n) (each_counted (λ v. v < bound) 0 n (λ v low high. omega arith))

-- so are those with another one in a place
placed_below : (constants place n bound : ℕ) → n < bound → AllByRecursion (SlotIsBelow bound constants) (map Variable (with_place place n (counted 0 n)))
placed_below constants place n bound h = each_image (SlotIsBelow bound constants) Variable (with_place place n (counted 0 n))
    (each_image (λ v. v < bound) (λ v. if v == place then n else v) (counted 0 n)
    (each_counted (λ v. (if v == place then n else v) < bound) 0 n (λ v low high. taken_below (v == place) v n bound (omega arith) h)))

-- as many variables as a symbol has places
length-row : (n : ℕ) → length (map Variable (counted 0 n)) ≡ n
length-row n = length-map (counted 0 n) Variable ∙ length-counted 0 n

-- with another one in a place as well
length-placed : (place n : ℕ) → length (map Variable (with_place place n (counted 0 n))) ≡ n
length-placed place n = length-map (with_place place n (counted 0 n)) Variable
    ∙ length-map (counted 0 n) (λ v. if v == place then n else v) ∙ length-counted 0 n

-- an arity is within a bound where those of all named symbols and of equality are
arity_in-le : (tables : Tables) (most symbol : ℕ) → 2 ≤ most → AllByRecursion (λ s. s.arity ≤ most) tables.symbols → arity_in tables symbol ≤ most
arity_in-le tables most zero two each = two
arity_in-le tables most (suc n) two each = at tables.symbols n each
  where
    at : (symbols : List Symbol) (k : ℕ) → AllByRecursion (λ s. s.arity ≤ most) symbols → arity_or_zero (slice_get symbols k) ≤ most
    at [] k h = omega arith
    at (s ∷ symbols) zero h = h.0
    at (s ∷ symbols) (suc k) h = at symbols k h.1

module _ (tables : Tables) where
  module _ (constants : ℕ) where
    -- equality is reflexive: the form is well-formed
    formed_refl : IsWellFormed constants (built_in_form tables Refl)
    formed_refl = record { premises = tt; disjuncts = (((omega arith, (omega arith, tt)), tt), tt) }

    -- it is symmetric
    formed_sym : IsWellFormed constants (built_in_form tables Sym)
    formed_sym = record { premises = ((omega arith, (omega arith, tt)), tt); disjuncts = (((omega arith, (omega arith, tt)), tt), tt) }

    -- it is transitive
    formed_trans : IsWellFormed constants (built_in_form tables Trans)
    formed_trans = record {
      premises = ((omega arith, (omega arith, tt)), ((omega arith, (omega arith, tt)), tt));
      disjuncts = (((omega arith, (omega arith, tt)), tt), tt);
    }

    -- a symbol keeps to equality
    formed_sub : (positive : Bool) (symbol place : ℕ) → 1 ≤ place → place ≤ arity_in tables symbol → IsWellFormed constants (built_in_form tables (Sub positive symbol place))
    formed_sub positive symbol place low high = record {
      premises = (row_below constants (arity_in tables symbol) (arity_in tables symbol + 1) (omega arith), ((omega arith, (omega arith, tt)), tt));
      disjuncts = ((placed_below constants (place - 1) (arity_in tables symbol) (arity_in tables symbol + 1 + 0) (omega arith), tt), tt);
    }

    -- a symbol excludes its complement
    formed_no : (symbol : ℕ) → IsWellFormed constants (built_in_form tables (No symbol))
    formed_no symbol = let row = row_below constants (arity_in tables symbol) (arity_in tables symbol) (omega arith) in
        record { premises = (row, (row, tt)); disjuncts = tt }

    -- one of them holds
    formed_or : (symbol : ℕ) → IsWellFormed constants (built_in_form tables (Or symbol))
    formed_or symbol = let row = row_below constants (arity_in tables symbol) (arity_in tables symbol + 0) (omega arith) in
        record { premises = tt; disjuncts = ((row, tt), ((row, tt), tt)) }

  -- an equation fits
  equation_fits : (left right : ℕ) → AtomFits tables (equation left right)
  equation_fits left right = record { there = omega arith; arity = refl }

  module _ (few : AllByRecursion (λ s. s.arity ≤ MOST_ARGUMENTS) tables.symbols) where
    -- the arity of a symbol is within the limit
    arity_few : (symbol : ℕ) → arity_in tables symbol ≤ 32
    arity_few symbol = arity_in-le tables 32 symbol (omega arith) few

    -- equality is reflexive: the form fits
    fits_refl : FormFits tables (built_in_form tables Refl)
    fits_refl = record {
      formed = formed_refl (length tables.constants);
      narrow = record { variables = omega arith; atoms = omega arith; premises = tt; disjuncts = ((omega arith, tt), tt) };
      premises = tt;
      disjuncts = ((equation_fits 0 0, tt), tt);
    }

    -- it is symmetric
    fits_sym : FormFits tables (built_in_form tables Sym)
    fits_sym = record {
      formed = formed_sym (length tables.constants);
      narrow = record { variables = omega arith; atoms = omega arith; premises = (omega arith, tt); disjuncts = ((omega arith, tt), tt) };
      premises = (equation_fits 0 1, tt);
      disjuncts = ((equation_fits 1 0, tt), tt);
    }

    -- it is transitive
    fits_trans : FormFits tables (built_in_form tables Trans)
    fits_trans = record {
      formed = formed_trans (length tables.constants);
      narrow = record { variables = omega arith; atoms = omega arith; premises = (omega arith, (omega arith, tt)); disjuncts = ((omega arith, tt), tt) };
      premises = (equation_fits 0 1, (equation_fits 1 2, tt));
      disjuncts = ((equation_fits 0 2, tt), tt);
    }

    -- a symbol keeps to equality
    fits_sub : (positive : Bool) (symbol place : ℕ) → symbol < length tables.symbols + 1 → 1 ≤ place → place ≤ arity_in tables symbol
        → FormFits tables (built_in_form tables (Sub positive symbol place))
    fits_sub positive symbol place there low high =
        let most = arity_few symbol in
        let row = length-row (arity_in tables symbol) in
        let placed = length-placed (place - 1) (arity_in tables symbol) in
        record {
          formed = formed_sub (length tables.constants) positive symbol place low high;
          narrow = record { variables = omega arith; atoms = omega arith; premises = (omega arith, (omega arith, tt)); disjuncts = ((omega arith, tt), tt) };
          premises = (record { there = there; arity = row }, (equation_fits (place - 1) (arity_in tables symbol), tt));
          disjuncts = ((record { there = there; arity = placed }, tt), tt);
        }

    -- a symbol excludes its complement
    fits_no : (symbol : ℕ) → symbol < length tables.symbols + 1 → FormFits tables (built_in_form tables (No symbol))
    fits_no symbol there =
        let most = arity_few symbol in
        let row = length-row (arity_in tables symbol) in
        record {
          formed = formed_no (length tables.constants) symbol;
          narrow = record { variables = omega arith; atoms = omega arith; premises = (omega arith, (omega arith, tt)); disjuncts = tt };
          premises = (record { there = there; arity = row }, (record { there = there; arity = row }, tt));
          disjuncts = tt;
        }

    -- one of them holds
    fits_or : (symbol : ℕ) → symbol < length tables.symbols + 1 → FormFits tables (built_in_form tables (Or symbol))
    fits_or symbol there =
        let most = arity_few symbol in
        let row = length-row (arity_in tables symbol) in
        record {
          formed = formed_or (length tables.constants) symbol;
          narrow = record { variables = omega arith; atoms = omega arith; premises = tt; disjuncts = ((omega arith, tt), ((omega arith, tt), tt)) };
          premises = tt;
          disjuncts = ((record { there = there; arity = row }, tt), ((record { there = there; arity = row }, tt), tt));
        }

module _ (tables : Tables) (forms : List Form) where
  -- the forms are well-formed
  pub built_ins_formed : (constants : ℕ) → AllByRecursion (λ b. IsWellFormed constants (built_in_form tables b)) (built_ins tables forms)
  built_ins_formed constants = each_built_in tables forms (λ b. IsWellFormed constants (built_in_form tables b))
      (formed_refl tables constants) (formed_sym tables constants) (formed_trans tables constants)
      (λ positive symbol place there low high. formed_sub tables constants positive symbol place low high)
      (λ symbol there. formed_no tables constants symbol) (λ symbol there. formed_or tables constants symbol)

  -- they fit the tables, where no symbol has too many arguments
  pub built_ins_fit : AllByRecursion (λ s. s.arity ≤ MOST_ARGUMENTS) tables.symbols → AllByRecursion (λ b. FormFits tables (built_in_form tables b)) (built_ins tables forms)
  built_ins_fit few = each_built_in tables forms (λ b. FormFits tables (built_in_form tables b))
      (fits_refl tables few) (fits_sym tables few) (fits_trans tables few) (fits_sub tables few) (fits_no tables few) (fits_or tables few)

  -- their symbols are there
  pub built_ins_there : AllByRecursion (BuiltInIsThere (length tables.symbols + 1)) (built_ins tables forms)
  built_ins_there = each_built_in tables forms (BuiltInIsThere (length tables.symbols + 1)) tt tt tt
      (λ positive symbol place there low high. there) (λ symbol there. there) (λ symbol there. there)

-- a digit may stand in a word
word_digit : (b : ℕ) → 48 ≤ b → b ≤ 57 → is_word b ≡ true
word_digit b low high = grind (arith, nat_tests)

-- the text of a digit below ten
word_glyph : (d : ℕ) → d < 10 → is_word (digit_glyph false d) ≡ true
word_glyph d small =
    let is : digit_glyph false d ≡ 48 + d = grind (arith, nat_tests) in
    ap is_word is ∙ word_digit (48 + d) (omega arith) (omega arith)

-- digits in front of a word are a word
word_digits : (k n : ℕ) (acc : List ℕ) → list_all is_word acc ≡ true → list_all is_word (digits_onto k 10 false n acc) ≡ true
word_digits zero n acc h = h
word_digits (suc k) n acc h =
    let here : list_all is_word (digit_glyph false (n % 10) ∷ acc) ≡ true = and_true (is_word (digit_glyph false (n % 10))) (list_all is_word acc) (word_glyph (n % 10) (omega arith)) h in
    chosen (n / 10 == 0) (digit_glyph false (n % 10) ∷ acc) (digits_onto k 10 false (n / 10) (digit_glyph false (n % 10) ∷ acc)) here
    (word_digits k (n / 10) (digit_glyph false (n % 10) ∷ acc) here)
  where
    chosen : (b : Bool) (xs ys : List ℕ) → list_all is_word xs ≡ true → list_all is_word ys ≡ true → list_all is_word (if b then xs else ys) ≡ true
    chosen true xs ys p q = p
    chosen false xs ys p q = q

-- the text of a number may stand in a word
word_decimal : (n : ℕ) → list_all is_word (decimal n) ≡ true
unfolding digits
word_decimal n = word_digits 64 n [] refl

-- the variables of a form
pub built_in_variables : (form : Form) → AreVariablesOf form (built_in_names form)
built_in_variables form = record {
  count = length-map (counted 0 form.universals) (λ v. codes "V" ++ decimal v) ∙ length-counted 0 form.universals;
  words = each_image (λ name. is_upper_word name ≡ true) (λ v. codes "V" ++ decimal v) (counted 0 form.universals)
      (each_counted (λ v. is_upper_word (codes "V" ++ decimal v) ≡ true) 0 form.universals (λ v low high. word_decimal v));
}
