-- The names that tables have: those of a formula after it was read, in longer tables too.
use Rattle.std.proofs.Common.{◌≡◌, ℕ, suc, ◌+◌, ◌<◌, ◌==◌, nat_lt, nat_eq, Bool, true, false, cond, ◌||◌, List, [], ◌∷◌, ◌++◌, length, slice_get, position, Some, refl, Ok, Err, ap, sym, subst, ◌∙◌, arith, append_assoc}
use Rattle.std.proofs.lemmas.List.{append-nil}
use Rattle.std.proofs.lemmas.List.Folds.{list_any-append}
use Rattle.std.proofs.lemmas.Bool.Decides.{nat_tests}
use Rattle.std.specs.Prelude.{unwrap_or, Result, OnOk, OnErr}
use Rattle.std.specs.List.{AllByRecursion, list_any, position_or_len}
use Rattle.std.specs.Option.{option_map}
use Rattle.std.specs.Cmp.Lexicographic.{pointwise, bytes_decides}
use Rattle.text_core.specs.Names.{Text}
use Rattle.text_core.specs.Numbered.{Symbol, Tables}
use Rattle.text_core.proofs.Laws.{each_map, and_both, and_true, get_front, number_same}
use Rattle.signature.specs.Numbers.{is_symbol, found_symbol, found_constant, with_symbol, with_constant}
use Rattle.logic_core.specs.declared.formula.Term.{Term}
use Rattle.logic_core.specs.declared.formula.Term.TheVariants.{Variable, Constant}
use Rattle.logic_core.specs.declared.formula.Formula.{Formula, True, False, Pred, Equal, Not', And', Or', Binary', ForAll', Exists', Row_of-Formula, end_of-Formula, more_of-Formula}
use Rattle.coherent_form.specs.Reading.{Extends, with_term, with_terms, with_predicate, with_names, with_names_of}

-- a list that has an item which passes a test
module _ {X : Type 0} (t : X → Bool) where
  -- the first item that passes, by its number
  pub record Passing (xs : List X) : Type 0 where
    pub item : X
    pub below : position_or_len t xs < length xs
    pub at : slice_get xs (position_or_len t xs) ≡ Some item
    pub passes : t item ≡ true

  -- the first item that passes is a later one
  passing_later : (x : X) (xs : List X) → t x ≡ false → Passing xs → Passing (x ∷ xs)
  passing_later x xs fails h =
      let count : position_or_len t (x ∷ xs) ≡ suc (position_or_len t xs) = rw fails (omega arith) in
      let below = h.below in
      record {
        item = h.item;
        below = omega arith;
        at = rw count h.at;
        passes = h.passes;
      }

  -- or the first one
  passing_first : (x : X) (xs : List X) → t x ≡ true → Passing (x ∷ xs)
  passing_first x xs is =
      let count : position_or_len t (x ∷ xs) ≡ 0 = rw is refl in
      record {
        item = x;
        below = omega arith;
        at = rw count refl;
        passes = is;
      }

  -- by the test of the first item
  passing_by : (x : X) (xs : List X) (b : Bool) → t x ≡ b → (b || list_any t xs) ≡ true → (list_any t xs ≡ true → Passing xs) → Passing (x ∷ xs)
  passing_by x xs true is any later = passing_first x xs is
  passing_by x xs false fails any later = passing_later x xs fails (later any)

  -- where some item passes, there is a first one
  pub passing : (xs : List X) → list_any t xs ≡ true → Passing xs
  passing [] h = absurd (cc)
  passing (x ∷ xs) h = passing_by x xs (t x) refl h (passing xs)

  -- its number as it is found
  pub position_is : (xs : List X) → list_any t xs ≡ true → position t xs ≡ Some (position_or_len t xs)
  position_is xs h =
      let below = (passing xs h).below in
      let is : nat_lt (position_or_len t xs) (length xs) ≡ true = grind (arith, nat_tests) in
      rw is refl

  -- the list with an item that passes last, unless some item passes
  abbrev pub with_last : X → List X → List X
  with_last s xs = cond (list_any t xs) xs (xs ++ s ∷ [])

  -- some item passes then
  pub with_last_passes : (s : X) (xs : List X) → t s ≡ true → list_any t (with_last s xs) ≡ true
  with_last_passes s xs is = go (list_any t xs) refl
    where
      go : (b : Bool) → list_any t xs ≡ b → list_any t (cond b xs (xs ++ s ∷ [])) ≡ true
      go true any = any
      go false none = list_any-append t xs (s ∷ []) ∙ (rw none (rw is refl))

  -- and the list is longer behind
  pub with_last_extends : (s : X) (xs : List X) → (more : List X) × (with_last s xs ≡ xs ++ more)
  with_last_extends s xs = go (list_any t xs)
    where
      go : (b : Bool) → (more : List X) × (cond b xs (xs ++ s ∷ []) ≡ xs ++ more)
      go true = ([], sym (append-nil xs))
      go false = (s ∷ [], refl)

  -- an item that passes is there where more follow
  pub any_front : (xs ys : List X) → list_any t xs ≡ true → list_any t (xs ++ ys) ≡ true
  any_front xs ys h = list_any-append t xs ys ∙ (rw h refl)

-- tables have a predicate, and a constant
abbrev pub has_symbol : Tables → Text → ℕ → Bool
has_symbol tables p n = list_any (is_symbol p n) tables.symbols

-- and a constant
abbrev pub has_constant : Tables → Text → Bool
has_constant tables c = list_any (pointwise nat_eq c) tables.constants

-- tables have the constant of a term
abbrev pub HasTerm : Tables → Term → Type 0
HasTerm tables (Variable x) = Unit {0}
HasTerm tables (Constant c) = has_constant tables c ≡ true

abbrev mutual
  -- tables have the names of a formula
  pub HasNames : Tables → Formula → Type 0
  HasNames tables True = Unit {0}
  HasNames tables False = Unit {0}
  HasNames tables (Pred p ts) = (has_symbol tables p (length ts) ≡ true) × AllByRecursion (HasTerm tables) ts
  HasNames tables (Equal t u) = HasTerm tables t × HasTerm tables u
  HasNames tables (Not' _ (more_of-Formula g _)) = HasNames tables g
  HasNames tables (And' _ members) = HasNamesOf tables members
  HasNames tables (Or' _ members) = HasNamesOf tables members
  HasNames tables (Binary' op _ (more_of-Formula g _) _ (more_of-Formula h _)) = HasNames tables g × HasNames tables h
  HasNames tables (ForAll' xs _ (more_of-Formula g _)) = HasNames tables g
  HasNames tables (Exists' xs _ (more_of-Formula g _)) = HasNames tables g

  -- and of some formulas
  pub HasNamesOf : Tables → {n : _} → Row_of-Formula n → Type 0
  HasNamesOf tables end_of-Formula = Unit {0}
  HasNamesOf tables (more_of-Formula g rest) = HasNames tables g × HasNamesOf tables rest

-- longer tables

-- tables extend themselves
pub extends_same : (a : Tables) → Extends a a
extends_same a = record { symbols = ([], sym (append-nil a.symbols)); constants = ([], sym (append-nil a.constants)) }

-- a list that is longer than a longer one
behind : {X : Type 0} (a b c : List X) → (more : List X) × (b ≡ a ++ more) → (more : List X) × (c ≡ b ++ more) → (more : List X) × (c ≡ a ++ more)
behind {X = X} a b c e f = (e.0 ++ f.0, f.1 ∙ ap (λ (xs : List X). xs ++ f.0) e.1 ∙ append_assoc a e.0 f.0)

-- tables that extend extending ones
pub extends_more : (a b c : Tables) → Extends a b → Extends b c → Extends a c
extends_more a b c e f = record {
  symbols = behind a.symbols b.symbols c.symbols e.symbols f.symbols;
  constants = behind a.constants b.constants c.constants e.constants f.constants;
}

-- symbols with one more
pub with_symbol_extends : (symbols : List Symbol) (p : Text) (n : ℕ) → (more : List Symbol) × (with_symbol symbols p n ≡ symbols ++ more)
unfolding with_symbol
with_symbol_extends symbols p n = with_last_extends (is_symbol p n) (record { name = p; arity = n }) symbols

-- constants with one more
pub with_constant_extends : (constants : List Text) (c : Text) → (more : List Text) × (with_constant constants c ≡ constants ++ more)
unfolding with_constant
with_constant_extends constants c = with_last_extends (pointwise nat_eq c) c constants

-- tables with a term
pub with_term_extends : (tables : Tables) (t : Term) → Extends tables (with_term tables t)
with_term_extends tables (Variable x) = extends_same tables
with_term_extends tables (Constant c) = record {
  symbols = ([], sym (append-nil tables.symbols));
  constants = with_constant_extends tables.constants c;
}

-- tables with terms
pub with_terms_extends : (tables : Tables) (ts : List Term) → Extends tables (with_terms tables ts)
with_terms_extends tables [] = extends_same tables
with_terms_extends tables (t ∷ ts) =
    extends_more tables (with_term tables t) (with_terms (with_term tables t) ts) (with_term_extends tables t) (with_terms_extends (with_term tables t) ts)

-- tables with a predicate
pub with_predicate_extends : (tables : Tables) (p : Text) (n : ℕ) → Extends tables (with_predicate tables p n)
with_predicate_extends tables p n = record {
  symbols = with_symbol_extends tables.symbols p n;
  constants = ([], sym (append-nil tables.constants));
}

mutual
  -- tables with the names of a formula
  pub with_names_extends : (f : Formula) (tables : Tables) → Extends tables (with_names f tables)
  with_names_extends True tables = extends_same tables
  with_names_extends False tables = extends_same tables
  with_names_extends (Pred p ts) tables =
      let first = with_predicate tables p (length ts) in
      extends_more tables first (with_terms first ts) (with_predicate_extends tables p (length ts)) (with_terms_extends first ts)
  with_names_extends (Equal t u) tables = with_terms_extends tables (t ∷ u ∷ [])
  with_names_extends (Not' _ (more_of-Formula g _)) tables = with_names_extends g tables
  with_names_extends (And' _ members) tables = with_names_of_extends members tables
  with_names_extends (Or' _ members) tables = with_names_of_extends members tables
  with_names_extends (Binary' op _ (more_of-Formula g _) _ (more_of-Formula h _)) tables =
      extends_more tables (with_names g tables) (with_names h (with_names g tables)) (with_names_extends g tables) (with_names_extends h (with_names g tables))
  with_names_extends (ForAll' xs _ (more_of-Formula g _)) tables = with_names_extends g tables
  with_names_extends (Exists' xs _ (more_of-Formula g _)) tables = with_names_extends g tables

  -- and of some formulas
  with_names_of_extends : {n : _} (members : Row_of-Formula n) (tables : Tables) → Extends tables (with_names_of members tables)
  with_names_of_extends end_of-Formula tables = extends_same tables
  with_names_of_extends (more_of-Formula g rest) tables =
      extends_more tables (with_names g tables) (with_names_of rest (with_names g tables)) (with_names_extends g tables) (with_names_of_extends rest (with_names g tables))

-- what is added, where it is added or left out by an answer
pub extends_by : {X E : Type 0} (r : Result X E) (old new after : Tables) → OnOk r (new ≡ after) → OnErr r (new ≡ old) → Extends old after → Extends old new
extends_by (Ok x) old new after added left longer = subst (Extends old) (sym added) longer
extends_by (Err e) old new after added left longer = subst (Extends old) (sym left) (extends_same old)

-- what tables have, longer ones have
module _ (a b : Tables) (longer : Extends a b) where
  -- a symbol stays
  has_symbol_stays : (p : Text) (n : ℕ) → has_symbol a p n ≡ true → has_symbol b p n ≡ true
  has_symbol_stays p n h = rw ((longer.symbols).1) (any_front (is_symbol p n) a.symbols (longer.symbols).0 h)

  -- a constant stays
  has_term_stays : (t : Term) → HasTerm a t → HasTerm b t
  has_term_stays (Variable x) h = h
  has_term_stays (Constant c) h = rw ((longer.constants).1) (any_front (pointwise nat_eq c) a.constants (longer.constants).0 h)

  mutual
    -- the names of a formula stay
    pub has_names_stay : (f : Formula) → HasNames a f → HasNames b f
    has_names_stay True h = h
    has_names_stay False h = h
    has_names_stay (Pred p ts) h = (has_symbol_stays p (length ts) h.0, each_map has_term_stays ts h.1)
    has_names_stay (Equal t u) h = (has_term_stays t h.0, has_term_stays u h.1)
    has_names_stay (Not' _ (more_of-Formula g _)) h = has_names_stay g h
    has_names_stay (And' _ members) h = has_names_of_stay members h
    has_names_stay (Or' _ members) h = has_names_of_stay members h
    has_names_stay (Binary' op _ (more_of-Formula g _) _ (more_of-Formula k _)) h = (has_names_stay g h.0, has_names_stay k h.1)
    has_names_stay (ForAll' xs _ (more_of-Formula g _)) h = has_names_stay g h
    has_names_stay (Exists' xs _ (more_of-Formula g _)) h = has_names_stay g h

    -- and of some formulas
    has_names_of_stay : {n : _} (members : Row_of-Formula n) → HasNamesOf a members → HasNamesOf b members
    has_names_of_stay end_of-Formula h = h
    has_names_of_stay (more_of-Formula g rest) h = (has_names_stay g h.0, has_names_of_stay rest h.1)

-- after a formula its names are there

-- a symbol passes its own test
pub symbol_passes : (p : Text) (n : ℕ) → is_symbol p n (record { name = p; arity = n }) ≡ true
symbol_passes p n = and_true _ _ ((bytes_decides p p).1 refl) (grind (arith, nat_tests))

-- a predicate is there
has_with_predicate : (tables : Tables) (p : Text) (n : ℕ) → has_symbol (with_predicate tables p n) p n ≡ true
unfolding with_symbol
has_with_predicate tables p n = with_last_passes (is_symbol p n) (record { name = p; arity = n }) tables.symbols (symbol_passes p n)

-- the constant of a term is there
has_with_term : (tables : Tables) (t : Term) → HasTerm (with_term tables t) t
unfolding with_constant
has_with_term tables (Variable x) = tt
has_with_term tables (Constant c) = with_last_passes (pointwise nat_eq c) c tables.constants ((bytes_decides c c).1 refl)

-- those of terms are there
has_with_terms : (tables : Tables) (ts : List Term) → AllByRecursion (HasTerm (with_terms tables ts)) ts
has_with_terms tables [] = tt
has_with_terms tables (t ∷ ts) = (
  has_term_stays (with_term tables t) (with_terms (with_term tables t) ts) (with_terms_extends (with_term tables t) ts) t (has_with_term tables t),
  has_with_terms (with_term tables t) ts,
)

mutual
  -- the names of a formula are there
  pub has_with_names : (f : Formula) (tables : Tables) → HasNames (with_names f tables) f
  has_with_names True tables = tt
  has_with_names False tables = tt
  has_with_names (Pred p ts) tables =
      let first = with_predicate tables p (length ts) in (
        has_symbol_stays first (with_terms first ts) (with_terms_extends first ts) p (length ts) (has_with_predicate tables p (length ts)),
        has_with_terms first ts,
      )
  has_with_names (Equal t u) tables = let h = has_with_terms tables (t ∷ u ∷ []) in (h.0, (h.1).0)
  has_with_names (Not' _ (more_of-Formula g _)) tables = has_with_names g tables
  has_with_names (And' _ members) tables = has_with_names_of members tables
  has_with_names (Or' _ members) tables = has_with_names_of members tables
  has_with_names (Binary' op _ (more_of-Formula g _) _ (more_of-Formula h _)) tables =
      let first = with_names g tables in
      (has_names_stay first (with_names h first) (with_names_extends h first) g (has_with_names g tables), has_with_names h first)
  has_with_names (ForAll' xs _ (more_of-Formula g _)) tables = has_with_names g tables
  has_with_names (Exists' xs _ (more_of-Formula g _)) tables = has_with_names g tables

  -- and of some formulas
  has_with_names_of : {n : _} (members : Row_of-Formula n) (tables : Tables) → HasNamesOf (with_names_of members tables) members
  has_with_names_of end_of-Formula tables = tt
  has_with_names_of (more_of-Formula g rest) tables =
      let first = with_names g tables in
      (has_names_stay first (with_names_of rest first) (with_names_of_extends rest first) g (has_with_names g tables), has_with_names_of rest first)

-- the number of a predicate that tables have, and what stands there in longer tables
module _ (a b : Tables) (longer : Extends a b) where
  pub record Found (p : Text) (n : ℕ) : Type 0 where
    pub number : ℕ
    pub is : unwrap_or (found_symbol a.symbols p n) 0 ≡ suc number
    pub below : number < length a.symbols
    pub at : slice_get b.symbols number ≡ Some (record { name = p; arity = n })

  -- a predicate is found by its number
  pub symbol_found : (p : Text) (n : ℕ) → has_symbol a p n ≡ true → Found p n
  unfolding found_symbol
  symbol_found p n h =
      let first = passing (is_symbol p n) a.symbols h in
      let number = position_or_len (is_symbol p n) a.symbols in
      let both = and_both (pointwise nat_eq p first.item.name) (n == first.item.arity) first.passes in
      let name : p ≡ first.item.name = (bytes_decides p first.item.name).0 both.0 in
      let arity : n ≡ first.item.arity = number_same n first.item.arity both.1 in
      let same : first.item ≡ record { name = p; arity = n } = λ i. record { name = sym name i; arity = sym arity i } in
      let place = position_is (is_symbol p n) a.symbols h in
      let next : unwrap_or (option_map (λ k. k + 1) (position (is_symbol p n) a.symbols)) 0 ≡ suc number = rw place (omega arith) in
      record {
        number = number;
        is = next;
        below = first.below;
        at = rw ((longer.symbols).1) (get_front a.symbols (longer.symbols).0 number (record { name = p; arity = n }) (first.at ∙ ap (λ (x : Symbol). Some x) same));
      }

  -- and those of a constant
  pub record FoundConstant (c : Text) : Type 0 where
    pub below : unwrap_or (found_constant a.constants c) 0 < length a.constants
    pub at : slice_get b.constants (unwrap_or (found_constant a.constants c) 0) ≡ Some c

  -- a constant is found by its number
  pub constant_found : (c : Text) → has_constant a c ≡ true → FoundConstant c
  unfolding found_constant
  constant_found c h =
      let first = passing (pointwise nat_eq c) a.constants h in
      let number = position_or_len (pointwise nat_eq c) a.constants in
      let same : c ≡ first.item = (bytes_decides c first.item).0 first.passes in
      let place = position_is (pointwise nat_eq c) a.constants h in
      let is : unwrap_or (position (pointwise nat_eq c) a.constants) 0 ≡ number = rw place refl in
      record {
        below = rw is first.below;
        at = rw is (rw ((longer.constants).1) (get_front a.constants (longer.constants).0 number c (first.at ∙ ap (λ (x : Text). Some x) (sym same))));
      }
