-- The predicates of a formula that is read have no more arguments than an atom of a form may have.
use Rattle.std.proofs.Common.{◌≡◌, ℕ, ◌+◌, ◌≤◌, Bool, true, false, cond, if◌then◌else◌, List, [], ◌∷◌, ◌++◌, length, sym, subst, arith}
use Rattle.std.specs.List.{AllByRecursion, list_any}
use Rattle.text_core.specs.Names.{Text}
use Rattle.text_core.specs.Numbered.{Tables}
use Rattle.text_core.specs.declared.limits.TheConstants.{MOST_ARGUMENTS}
use Rattle.text_core.proofs.Laws.{each_append}
use Rattle.signature.specs.Numbers.{is_symbol, with_symbol}
use Rattle.logic_core.specs.Allowed.{IsBoundIn}
use Rattle.logic_core.specs.declared.formula.Term.{Term}
use Rattle.logic_core.specs.declared.formula.Term.TheVariants.{Variable, Constant}
use Rattle.logic_core.specs.declared.formula.Op.TheVariants.{Implies, Implied, Iff, Xor, Nor, Nand}
use Rattle.logic_core.specs.declared.formula.Formula.{Formula, True, False, Pred, Equal, Not', And', Or', Binary', ForAll', Exists', Row_of-Formula, end_of-Formula, more_of-Formula}
use Rattle.logic_core.specs.declared.form.Form.{Form}
use Rattle.coherent_form.specs.Counts.{argument_count, conjunction_counts, conjunctions_counts, premise_counts, choices_counts, offers_counts, conclusion_counts, conclusions_counts, rule_counts, rules_counts}
use Rattle.coherent_form.specs.Offending.{nodes, is_atom, are_plain, conjunction_offenders, conjunctions_offenders, premise_offenders, premises_offenders, conclusion_offenders, conclusions_offenders, rule_offenders, rules_offenders}
use Rattle.coherent_form.specs.Reading.{with_term, with_terms, with_predicate, with_names, with_names_of}
use Rattle.coherent_form.specs.Wide.{AreNarrow, Reads}
use Rattle.coherent_form.specs.declared.counts.Counts.{Counts}
use Rattle.coherent_form.proofs.Counting.{narrow_small}
use Rattle.coherent_form.proofs.Roles.{both_none, part_none, parts_none, offends_itself, negated_atom}

module _ (most : ℕ) where
  abbrev mutual
    -- each predicate of a formula has at most so many arguments
    pub ArgumentsWithin : Formula → Type 0
    ArgumentsWithin True = Unit {0}
    ArgumentsWithin False = Unit {0}
    ArgumentsWithin (Pred p ts) = length ts ≤ most
    ArgumentsWithin (Equal t u) = Unit {0}
    ArgumentsWithin (Not' _ (more_of-Formula g _)) = ArgumentsWithin g
    ArgumentsWithin (And' _ members) = EachArgumentsWithin members
    ArgumentsWithin (Or' _ members) = EachArgumentsWithin members
    ArgumentsWithin (Binary' op _ (more_of-Formula g _) _ (more_of-Formula h _)) = ArgumentsWithin g × ArgumentsWithin h
    ArgumentsWithin (ForAll' xs _ (more_of-Formula g _)) = ArgumentsWithin g
    ArgumentsWithin (Exists' xs _ (more_of-Formula g _)) = ArgumentsWithin g

    -- and each predicate of some formulas
    pub EachArgumentsWithin : {n : _} → Row_of-Formula n → Type 0
    EachArgumentsWithin end_of-Formula = Unit {0}
    EachArgumentsWithin (more_of-Formula g rest) = ArgumentsWithin g × EachArgumentsWithin rest

  -- where the counts of a formula are within a bound, so are its predicates

  -- an atom, by the number of its arguments
  atom_within : (g : Formula) → is_atom g ≡ true → argument_count g ≤ most → ArgumentsWithin g
  atom_within (Pred p ts) is le = le
  atom_within (Equal t u) is le = tt
  atom_within True is le = absurd (cc)
  atom_within False is le = absurd (cc)
  atom_within (Not' _ row) is le = absurd (cc)
  atom_within (And' _ row) is le = absurd (cc)
  atom_within (Or' _ row) is le = absurd (cc)
  atom_within (Binary' op _ row _ more) is le = absurd (cc)
  atom_within (ForAll' xs _ row) is le = absurd (cc)
  atom_within (Exists' xs _ row) is le = absurd (cc)

  mutual
    -- a conjunction, by its counts
    conjunction_within : (f : Formula) → conjunction_offenders f ≡ [] → (conjunction_counts f).arguments ≤ most → ArgumentsWithin f
    conjunction_within True fits le = tt
    conjunction_within False fits le = tt
    conjunction_within (Pred p ts) fits le = le
    conjunction_within (Equal t u) fits le = tt
    conjunction_within (Not' _ (more_of-Formula g _)) fits le = atom_within g (negated_atom g fits) le
    conjunction_within (And' _ members) fits le = conjunctions_within members 1 fits le
    conjunction_within (Or' _ members) fits le = absurd (offends_itself fits)
    conjunction_within (Binary' op _ (more_of-Formula g _) _ (more_of-Formula h _)) fits le = absurd (offends_itself fits)
    conjunction_within (ForAll' xs _ (more_of-Formula g _)) fits le = absurd (offends_itself fits)
    conjunction_within (Exists' xs _ (more_of-Formula g _)) fits le = absurd (offends_itself fits)

    -- members that are conjunctions
    conjunctions_within : {n : _} (members : Row_of-Formula n) (at : ℕ) → conjunctions_offenders at members ≡ [] → (conjunctions_counts members).arguments ≤ most → EachArgumentsWithin members
    conjunctions_within end_of-Formula at fits le = tt
    conjunctions_within (more_of-Formula g rest) at fits le =
        let parts = parts_none at (conjunction_offenders g) (conjunctions_offenders (at + nodes g) rest) fits in
        (conjunction_within g parts.0 (omega arith), conjunctions_within rest (at + nodes g) parts.1 (omega arith))

  mutual
    -- a premise
    premise_within : (f : Formula) → premise_offenders f ≡ [] → (premise_counts f).arguments ≤ most → ArgumentsWithin f
    premise_within True fits le = tt
    premise_within False fits le = tt
    premise_within (Pred p ts) fits le = le
    premise_within (Equal t u) fits le = tt
    premise_within (Not' _ (more_of-Formula g _)) fits le = atom_within g (negated_atom g fits) le
    premise_within (And' _ members) fits le = choices_within members 1 fits le
    premise_within (Or' _ members) fits le = offers_within members 1 fits le
    premise_within (Binary' op _ (more_of-Formula g _) _ (more_of-Formula h _)) fits le = absurd (offends_itself fits)
    premise_within (ForAll' xs _ (more_of-Formula g _)) fits le = absurd (offends_itself fits)
    premise_within (Exists' xs _ (more_of-Formula g _)) fits le = premise_within g (part_none 1 (premise_offenders g) fits) le

    -- members that are premises, of which all are asked for
    choices_within : {n : _} (members : Row_of-Formula n) (at : ℕ) → premises_offenders at members ≡ [] → (choices_counts members).arguments ≤ most → EachArgumentsWithin members
    choices_within end_of-Formula at fits le = tt
    choices_within (more_of-Formula g rest) at fits le =
        let parts = parts_none at (premise_offenders g) (premises_offenders (at + nodes g) rest) fits in
        (premise_within g parts.0 (omega arith), choices_within rest (at + nodes g) parts.1 (omega arith))

    -- members that are premises, of which any is asked for
    offers_within : {n : _} (members : Row_of-Formula n) (at : ℕ) → premises_offenders at members ≡ [] → (offers_counts members).arguments ≤ most → EachArgumentsWithin members
    offers_within end_of-Formula at fits le = tt
    offers_within (more_of-Formula g rest) at fits le =
        let parts = parts_none at (premise_offenders g) (premises_offenders (at + nodes g) rest) fits in
        (premise_within g parts.0 (omega arith), offers_within rest (at + nodes g) parts.1 (omega arith))

  mutual
    -- a conclusion
    conclusion_within : (f : Formula) → conclusion_offenders f ≡ [] → (conclusion_counts f).arguments ≤ most → ArgumentsWithin f
    conclusion_within True fits le = tt
    conclusion_within False fits le = tt
    conclusion_within (Pred p ts) fits le = le
    conclusion_within (Equal t u) fits le = tt
    conclusion_within (Not' _ (more_of-Formula g _)) fits le = atom_within g (negated_atom g fits) le
    conclusion_within (And' _ members) fits le = conjunctions_within members 1 fits le
    conclusion_within (Or' _ members) fits le = conclusions_within members 1 fits le
    conclusion_within (Binary' op _ (more_of-Formula g _) _ (more_of-Formula h _)) fits le = absurd (offends_itself fits)
    conclusion_within (ForAll' xs _ (more_of-Formula g _)) fits le = absurd (offends_itself fits)
    conclusion_within (Exists' xs _ (more_of-Formula g _)) fits le = conclusion_within g (part_none 1 (conclusion_offenders g) fits) le

    -- members that are conclusions
    conclusions_within : {n : _} (members : Row_of-Formula n) (at : ℕ) → conclusions_offenders at members ≡ [] → (conclusions_counts members).arguments ≤ most → EachArgumentsWithin members
    conclusions_within end_of-Formula at fits le = tt
    conclusions_within (more_of-Formula g rest) at fits le =
        let parts = parts_none at (conclusion_offenders g) (conclusions_offenders (at + nodes g) rest) fits in
        (conclusion_within g parts.0 (omega arith), conclusions_within rest (at + nodes g) parts.1 (omega arith))

  -- of two choices by one test
  by_choice : {R : Type 0} (b : Bool) (xs ys : List ℕ) (s t : Counts) → (if b then xs else ys) ≡ [] → (if b then s else t).arguments ≤ most
      → (xs ≡ [] → s.arguments ≤ most → R) → (ys ≡ [] → t.arguments ≤ most → R) → R
  by_choice true xs ys s t fits le if_passes if_fails = if_passes fits le
  by_choice false xs ys s t fits le if_passes if_fails = if_fails fits le

  mutual
    -- a rule
    pub rule_within : (f : Formula) → rule_offenders f ≡ [] → (rule_counts f).arguments ≤ most → ArgumentsWithin f
    rule_within True fits le = tt
    rule_within False fits le = tt
    rule_within (Pred p ts) fits le = le
    rule_within (Equal t u) fits le = tt
    rule_within (Not' _ (more_of-Formula g _)) fits le = atom_within g (negated_atom g fits) le
    rule_within (Or' _ members) fits le = conclusions_within members 1 fits le
    rule_within (Exists' xs _ (more_of-Formula g _)) fits le = conclusion_within g (part_none 1 (conclusion_offenders g) fits) le
    rule_within (And' s members) fits le =
        by_choice (are_plain members) (conclusion_offenders (And' s members)) (rules_offenders 1 members) (conjunctions_counts members) (rules_counts members) fits le
        (λ plain small. conjunctions_within members 1 plain small)
        (λ rules small. rules_within members 1 rules small)
    rule_within (ForAll' xs _ (more_of-Formula g _)) fits le = rule_within g (part_none 1 (rule_offenders g) fits) le
    rule_within (Binary' Implies _ (more_of-Formula g _) _ (more_of-Formula h _)) fits le =
        let parts = parts_none 1 (premise_offenders g) _ fits in
        (premise_within g parts.0 (omega arith), rule_within h (part_none (1 + nodes g) (rule_offenders h) parts.1) (omega arith))
    rule_within (Binary' Implied _ (more_of-Formula g _) _ (more_of-Formula h _)) fits le =
        let parts = parts_none 1 (rule_offenders g) _ fits in
        (rule_within g parts.0 (omega arith), premise_within h (part_none (1 + nodes g) (premise_offenders h) parts.1) (omega arith))
    rule_within (Binary' Iff _ (more_of-Formula g _) _ (more_of-Formula h _)) fits le =
        let parts = parts_none 1 (premise_offenders g ++ rule_offenders g) _ fits in
        let left = both_none (premise_offenders g) (rule_offenders g) parts.0 in
        let right = both_none (premise_offenders h) (rule_offenders h) (part_none (1 + nodes g) (premise_offenders h ++ rule_offenders h) parts.1) in
        (premise_within g left.0 (omega arith), premise_within h right.0 (omega arith))
    rule_within (Binary' Xor _ (more_of-Formula g _) _ (more_of-Formula h _)) fits le = absurd (offends_itself fits)
    rule_within (Binary' Nor _ (more_of-Formula g _) _ (more_of-Formula h _)) fits le = absurd (offends_itself fits)
    rule_within (Binary' Nand _ (more_of-Formula g _) _ (more_of-Formula h _)) fits le = absurd (offends_itself fits)

    -- members that are rules
    rules_within : {n : _} (members : Row_of-Formula n) (at : ℕ) → rules_offenders at members ≡ [] → (rules_counts members).arguments ≤ most → EachArgumentsWithin members
    rules_within end_of-Formula at fits le = tt
    rules_within (more_of-Formula g rest) at fits le =
        let parts = parts_none at (rule_offenders g) (rules_offenders (at + nodes g) rest) fits in
        (rule_within g parts.0 (omega arith), rules_within rest (at + nodes g) parts.1 (omega arith))

  -- then the symbols of tables that get its names are within the bound too

  -- each symbol of tables has at most so many arguments
  abbrev pub SymbolsWithin : Tables → Type 0
  SymbolsWithin tables = AllByRecursion (λ s. s.arity ≤ most) tables.symbols

  -- constants change no symbol
  terms_within : (tables : Tables) (ts : List Term) → SymbolsWithin tables → SymbolsWithin (with_terms tables ts)
  terms_within tables [] h = h
  terms_within tables (Variable x ∷ ts) h = terms_within tables ts h
  terms_within tables (Constant c ∷ ts) h = terms_within (with_term tables (Constant c)) ts h

  -- a predicate within the bound keeps the symbols within it
  predicate_within : (tables : Tables) (p : Text) (n : ℕ) → n ≤ most → SymbolsWithin tables → SymbolsWithin (with_predicate tables p n)
  unfolding with_symbol
  predicate_within tables p n le h = go (list_any (is_symbol p n) tables.symbols)
    where
      go : (b : Bool) → AllByRecursion (λ s. s.arity ≤ most) (cond b tables.symbols (tables.symbols ++ record { name = p; arity = n } ∷ []))
      go true = h
      go false = each_append (λ s. s.arity ≤ most) tables.symbols (record { name = p; arity = n } ∷ []) h (le, tt)

  mutual
    -- so do the names of a formula
    pub names_within : (f : Formula) (tables : Tables) → ArgumentsWithin f → SymbolsWithin tables → SymbolsWithin (with_names f tables)
    names_within True tables le h = h
    names_within False tables le h = h
    names_within (Pred p ts) tables le h = terms_within (with_predicate tables p (length ts)) ts (predicate_within tables p (length ts) le h)
    names_within (Equal t u) tables le h = terms_within tables (t ∷ u ∷ []) h
    names_within (Not' _ (more_of-Formula g _)) tables le h = names_within g tables le h
    names_within (And' _ members) tables le h = names_of_within members tables le h
    names_within (Or' _ members) tables le h = names_of_within members tables le h
    names_within (Binary' op _ (more_of-Formula g _) _ (more_of-Formula k _)) tables le h = names_within k (with_names g tables) le.1 (names_within g tables le.0 h)
    names_within (ForAll' xs _ (more_of-Formula g _)) tables le h = names_within g tables le h
    names_within (Exists' xs _ (more_of-Formula g _)) tables le h = names_within g tables le h

    -- and of some formulas
    names_of_within : {n : _} (members : Row_of-Formula n) (tables : Tables) → EachArgumentsWithin members → SymbolsWithin tables → SymbolsWithin (with_names_of members tables)
    names_of_within end_of-Formula tables le h = h
    names_of_within (more_of-Formula g rest) tables le h = names_of_within rest (with_names g tables) le.1 (names_within g tables le.0 h)

-- where the symbols of tables have few arguments, so have those after a formula that is read
pub reads_arities : (tables : Tables) (f : Formula) (forms : List Form) (after : Tables) → IsBoundIn [] f → Reads tables f forms after
    → AllByRecursion (λ s. s.arity ≤ MOST_ARGUMENTS) tables.symbols → AllByRecursion (λ s. s.arity ≤ MOST_ARGUMENTS) after.symbols
reads_arities tables f forms after closed r h =
    let narrow = subst AreNarrow r.forms_are r.narrow in
    let small = (narrow_small after f closed narrow).arguments in
    subst (λ t. AllByRecursion (λ s. s.arity ≤ MOST_ARGUMENTS) t.symbols) (sym r.after_is)
    (names_within MOST_ARGUMENTS f tables (rule_within MOST_ARGUMENTS f r.coherent small) h)
