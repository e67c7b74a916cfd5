-- What coherent forms a formula is read as. Each node of a formula has a role that its parent gives
-- it: the formula itself is a rule; a rule is made of rules, premises and conclusions; a conclusion
-- is made of conjunctions. For each role there is one function here, by cases on the formula; what
-- it gives for a shape that does not fit the role is of no account. `Offending` says which shapes
-- fit, `Wide` what the limits are. Source: the coherent formulas of the 2014 paper "A Vernacular
-- for Coherent Logic"; the reading of disjunctions and existentials in premises, of nested rules
-- and of equivalences is by the laws of first-order logic.
use Rattle.std.specs.Prelude.{ℕ, ◌+◌, ◌≡◌, Bool, true, false, if◌then◌else◌, nat_le, List, [], ◌∷◌, ◌++◌, map, length, unwrap_or}
use Rattle.std.specs.List.{flat_map}
use Rattle.text_core.specs.Names.{Text}
use Rattle.text_core.specs.Numbered.{Symbol, Tables}
use Rattle.logic_core.specs.Truth.{Assignment, value_in}
use Rattle.logic_core.specs.declared.formula.Term.{Term}
use Rattle.logic_core.specs.declared.formula.Term.TheVariants.{Variable, Constant}
use Rattle.logic_core.specs.declared.formula.Op.TheVariants.{Implies, Implied, Iff}
use Rattle.logic_core.specs.declared.formula.Formula.{Formula, True, False, Pred, Equal, Not', And', Or', Binary', ForAll', Exists', Row_of-Formula, end_of-Formula, more_of-Formula}
use Rattle.logic_core.specs.declared.form.Slot.{Slot}
use Rattle.logic_core.specs.declared.form.Slot.TheVariants as slot
use Rattle.logic_core.specs.declared.form.Atom.{Atom}
use Rattle.logic_core.specs.declared.form.Form.{Form}
use Rattle.signature.specs.Numbers.{found_symbol, found_constant, with_symbol, with_constant}
use Rattle.coherent_form.specs.Offending.{are_plain}
use Rattle.coherent_form.specs.declared.alternative.Alternative.{Alternative}
use Rattle.coherent_form.specs.declared.alternative.Head.{Head}

-- Symbols and constants are numbered by tables, in order of first occurrence in preorder, a
-- predicate before its arguments.

-- the tables with a term's constant
abbrev pub with_term : Tables → Term → Tables
with_term tables (Variable x) = tables
with_term tables (Constant c) = record tables { constants = with_constant tables.constants c }

-- the tables with the constants of terms in order
abbrev pub with_terms : Tables → List Term → Tables
with_terms tables [] = tables
with_terms tables (t ∷ ts) = with_terms (with_term tables t) ts

-- the tables with a predicate
abbrev pub with_predicate : Tables → Text → ℕ → Tables
with_predicate tables p arity =
    record tables { symbols = with_symbol tables.symbols p arity }

abbrev mutual
  -- the tables with the symbols and constants of a formula
  pub with_names : Formula → Tables → Tables
  with_names True tables = tables
  with_names False tables = tables
  with_names (Pred p ts) tables =
      with_terms (with_predicate tables p (length ts)) ts
  with_names (Equal t u) tables = with_terms tables (t ∷ u ∷ [])
  with_names (Not' _ (more_of-Formula g _)) tables = with_names g tables
  with_names (And' _ members) tables = with_names_of members tables
  with_names (Or' _ members) tables = with_names_of members tables
  with_names (Binary' op _ (more_of-Formula g _) _ (more_of-Formula h _)) tables =
      with_names h (with_names g tables)
  with_names (ForAll' xs _ (more_of-Formula g _)) tables = with_names g tables
  with_names (Exists' xs _ (more_of-Formula g _)) tables = with_names g tables

  -- and of formulas in order
  pub with_names_of : {n : _} → Row_of-Formula n → Tables → Tables
  with_names_of end_of-Formula tables = tables
  with_names_of (more_of-Formula g rest) tables = with_names_of rest (with_names g tables)

-- tables with further symbols and constants behind those of other ones
pub record Extends (tables : Tables) (longer : Tables) : Type 0 where
  pub symbols : (more : List Symbol) × (longer.symbols ≡ tables.symbols ++ more)
  pub constants : (more : List Text) × (longer.constants ≡ tables.constants ++ more)

-- Variables are numbered by their place in the scope, which lists the variables of the quantifiers
-- around a node, the outermost first.

-- variables with their numbers, the newest first
abbrev pub numbered : ℕ → List Text → Assignment → Assignment
numbered n [] older = older
numbered n (x ∷ xs) older = numbered (n + 1) xs ((x, n) ∷ older)

-- the number of a variable; of two equal names the inner one counts
abbrev pub variable_number : List Text → Text → ℕ
variable_number scope x = value_in (numbered 0 scope []) x

-- a variable whose number is `from` or above is numbered higher, by so much
abbrev pub slot_moved : ℕ → ℕ → Slot → Slot
slot_moved from by (slot.Variable v) = slot.Variable (if nat_le from v then v + by else v)
slot_moved from by (slot.Constant c) = slot.Constant c

abbrev pub atom_moved : ℕ → ℕ → Atom → Atom
atom_moved from by atom = record {
  positive = atom.positive;
  symbol = atom.symbol;
  args = map (slot_moved from by) atom.args;
}

-- one alternative and then another, whose variables come after those of the first; `n` is the
-- number of variables in scope
abbrev pub alternative_joined : ℕ → Alternative → Alternative → Alternative
alternative_joined n a b = record {
  variables = a.variables + b.variables;
  atoms = a.atoms ++ map (atom_moved n a.variables) b.atoms;
}

-- every choice of an alternative from each of two lists, the first one changing slowest
abbrev pub alternatives_joined : ℕ → List Alternative → List Alternative → List Alternative
alternatives_joined n firsts seconds =
    flat_map (λ a. map (alternative_joined n a) seconds) firsts

-- an alternative with variables in front
abbrev pub alternative_bound : ℕ → Alternative → Alternative
alternative_bound count a = record { variables = count + a.variables; atoms = a.atoms }

-- one conclusion or another
abbrev pub head_joined : ℕ → Head → Head → Head
head_joined n h k = record {
  variables = h.variables + k.variables;
  disjuncts = h.disjuncts ++ map (map (atom_moved n h.variables)) k.disjuncts;
}

-- a conclusion with existential variables in front
abbrev pub head_bound : ℕ → Head → Head
head_bound count h = record { variables = count + h.variables; disjuncts = h.disjuncts }

-- a conclusion without premises
abbrev pub form_of_head : Head → Form
form_of_head h = record {
  universals = 0;
  premises = [];
  existentials = h.variables;
  disjuncts = h.disjuncts;
}

-- a form with universal variables in front
abbrev pub form_bound : ℕ → Form → Form
form_bound count form = record form { universals = count + form.universals }

-- a form with an alternative's variables and atoms in front
abbrev pub form_guarded : ℕ → Alternative → Form → Form
form_guarded n a form = record {
  universals = a.variables + form.universals;
  premises = a.atoms ++ map (atom_moved n a.variables) form.premises;
  existentials = form.existentials;
  disjuncts = map (map (atom_moved n a.variables)) form.disjuncts;
}

-- for each alternative of a premise, each form of a rule
abbrev pub forms_guarded : ℕ → List Alternative → List Form → List Form
forms_guarded n guards forms = flat_map (λ a. map (form_guarded n a) forms) guards

module _ (tables : Tables) where
  abbrev pub slot_of : List Text → Term → Slot
  slot_of scope (Variable x) = slot.Variable (variable_number scope x)
  slot_of scope (Constant c) = slot.Constant (unwrap_or (found_constant tables.constants c) 0)

  -- the symbol of an atom: its predicate's, or equality
  abbrev pub symbol_of : Formula → ℕ
  symbol_of (Pred p ts) = unwrap_or (found_symbol tables.symbols p (length ts)) 0
  symbol_of _ = 0

  -- the arguments of an atom
  abbrev pub terms_of : Formula → List Term
  terms_of (Pred p ts) = ts
  terms_of (Equal t u) = t ∷ u ∷ []
  terms_of _ = []

  -- an atom, or its complement
  abbrev pub atom_of : List Text → Bool → Formula → Atom
  atom_of scope positive f = record {
    positive = positive;
    symbol = symbol_of f;
    args = map (slot_of scope) (terms_of f);
  }

  abbrev mutual
    -- the atoms of a conjunction in order
    pub atoms_of : List Text → Formula → List Atom
    atoms_of scope (Pred p ts) = atom_of scope true (Pred p ts) ∷ []
    atoms_of scope (Equal t u) = atom_of scope true (Equal t u) ∷ []
    atoms_of scope (Not' _ (more_of-Formula g _)) = atom_of scope false g ∷ []
    atoms_of scope (And' _ members) = atoms_of_each scope members
    atoms_of scope _ = []

    pub atoms_of_each : List Text → {n : _} → Row_of-Formula n → List Atom
    atoms_of_each scope end_of-Formula = []
    atoms_of_each scope (more_of-Formula g rest) = atoms_of scope g ++ atoms_of_each scope rest

  abbrev mutual
    -- the alternatives of a premise: it is true where some alternative is
    pub alternatives : List Text → Formula → List Alternative
    alternatives scope (And' _ members) = choices scope members
    alternatives scope (Or' _ members) = offers scope members
    alternatives scope (Exists' xs _ (more_of-Formula g _)) =
        map (alternative_bound (length xs)) (alternatives (scope ++ xs) g)
    alternatives scope f = record { variables = 0; atoms = atoms_of scope f } ∷ []

    -- every choice of one alternative for each member, the first member changing slowest
    pub choices : List Text → {n : _} → Row_of-Formula n → List Alternative
    choices scope end_of-Formula = record { variables = 0; atoms = [] } ∷ []
    choices scope (more_of-Formula g rest) =
        alternatives_joined (length scope) (alternatives scope g) (choices scope rest)

    -- the alternatives of each member in order
    pub offers : List Text → {n : _} → Row_of-Formula n → List Alternative
    offers scope end_of-Formula = []
    offers scope (more_of-Formula g rest) = alternatives scope g ++ offers scope rest

  abbrev mutual
    -- the variables and the disjuncts of a conclusion in order: existential variables inside a
    -- disjunct come to the front
    pub head_of : List Text → Formula → Head
    head_of scope False = record { variables = 0; disjuncts = [] }
    head_of scope (Or' _ members) = head_of_each scope members
    head_of scope (Exists' xs _ (more_of-Formula g _)) =
        head_bound (length xs) (head_of (scope ++ xs) g)
    head_of scope f = record { variables = 0; disjuncts = atoms_of scope f ∷ [] }

    pub head_of_each : List Text → {n : _} → Row_of-Formula n → Head
    head_of_each scope end_of-Formula = record { variables = 0; disjuncts = [] }
    head_of_each scope (more_of-Formula g rest) =
        head_joined (length scope) (head_of scope g) (head_of_each scope rest)

  abbrev mutual
    -- the forms of a rule: it is true where every form is
    pub forms_of : List Text → Formula → List Form
    forms_of scope (ForAll' xs _ (more_of-Formula g _)) =
        map (form_bound (length xs)) (forms_of (scope ++ xs) g)
    forms_of scope (Binary' Implies _ (more_of-Formula g _) _ (more_of-Formula h _)) =
        forms_guarded (length scope) (alternatives scope g) (forms_of scope h)
    forms_of scope (Binary' Implied _ (more_of-Formula g _) _ (more_of-Formula h _)) =
        forms_guarded (length scope) (alternatives scope h) (forms_of scope g)
    forms_of scope (Binary' Iff _ (more_of-Formula g _) _ (more_of-Formula h _)) =
        forms_guarded (length scope) (alternatives scope g) (forms_of scope h)
        ++ forms_guarded (length scope) (alternatives scope h) (forms_of scope g)
    forms_of scope (And' shape members) =
        if are_plain members then form_of_head (head_of scope (And' shape members)) ∷ []
        else forms_of_each scope members
    forms_of scope f = form_of_head (head_of scope f) ∷ []

    pub forms_of_each : List Text → {n : _} → Row_of-Formula n → List Form
    forms_of_each scope end_of-Formula = []
    forms_of_each scope (more_of-Formula g rest) = forms_of scope g ++ forms_of_each scope rest
