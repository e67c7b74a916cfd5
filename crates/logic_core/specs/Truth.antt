-- Structures, and when a formula is true in one. Source: first-order logic with equality as the
-- TPTP uses it, over structures with at least one element; each connective by its truth table.
use Rattle.std.specs.Prelude.{ℕ, ◌≡◌, ◌⊎◌, Bool, true, if◌then◌else◌, List, [], ◌∷◌, map}
use Rattle.std.specs.Str.{bytes_eq}
use Rattle.text_core.specs.Names.{Text}
use Rattle.logic_core.specs.declared.formula.Term.{Term}
use Rattle.logic_core.specs.declared.formula.Term.TheVariants.{Variable, Constant}
use Rattle.logic_core.specs.declared.formula.Op.{Op}
use Rattle.logic_core.specs.declared.formula.Op.TheVariants.{Implies, Implied, Iff, Xor, Nor, Nand}
use Rattle.logic_core.specs.declared.formula.Formula.{Formula, True, False, Pred, Equal, Not', And', Or', Binary', ForAll', Exists', Row_of-Formula, end_of-Formula, more_of-Formula}

-- a structure: which whole numbers are its elements, of which elements a named predicate holds, and
-- for which element a constant stands
pub record Structure : Type 1 where
  pub element : ℕ → Type 0
  pub holds : Text → List ℕ → Bool
  pub place : Text → ℕ

abbrev pub structure : (ℕ → Type 0) → (Text → List ℕ → Bool) → (Text → ℕ) → Structure
structure element holds place = record { element = element; holds = holds; place = place }

-- variables with their values, the newest first
abbrev pub Assignment : Type 0
Assignment = List (Text × ℕ)

-- the newest value of a variable (0 for a variable without one, which no closed formula has)
abbrev pub value_in : Assignment → Text → ℕ
value_in [] x = 0
value_in (entry ∷ older) x = if bytes_eq entry.0 x then entry.1 else value_in older x

-- what a connective makes of what its sides say
abbrev pub OpTrue : Op → Type 0 → Type 0 → Type 0
OpTrue Implies P Q = P → Q
OpTrue Implied P Q = Q → P
OpTrue Iff P Q = (P → Q) × (Q → P)
OpTrue Xor P Q = (P × (Q → ⊥)) ⊎ ((P → ⊥) × Q)
OpTrue Nor P Q = (P → ⊥) × (Q → ⊥)
OpTrue Nand P Q = (P × Q) → ⊥

module _ (s : Structure) where
  abbrev pub term_value : Assignment → Term → ℕ
  term_value env (Variable x) = value_in env x
  term_value env (Constant c) = s.place c

  -- for every choice of elements for the variables in order; of two equal names the later choice
  -- counts
  abbrev pub EveryValue : List Text → (Assignment → Type 0) → Assignment → Type 0
  EveryValue [] P env = P env
  EveryValue (x ∷ xs) P env = (a : ℕ) → s.element a → EveryValue xs P ((x, a) ∷ env)

  -- for some choice of elements for the variables
  abbrev pub SomeValue : List Text → (Assignment → Type 0) → Assignment → Type 0
  SomeValue [] P env = P env
  SomeValue (x ∷ xs) P env = (a : ℕ) × s.element a × SomeValue xs P ((x, a) ∷ env)

  abbrev mutual
    -- a formula is true under an assignment
    pub IsTrueIn : Formula → Assignment → Type 0
    IsTrueIn True env = Unit {0}
    IsTrueIn False env = ⊥
    IsTrueIn (Pred p ts) env = s.holds p (map (term_value env) ts) ≡ true
    IsTrueIn (Equal t u) env = term_value env t ≡ term_value env u
    IsTrueIn (Not' _ (more_of-Formula g _)) env = IsTrueIn g env → ⊥
    IsTrueIn (And' _ members) env = EachTrueIn members env
    IsTrueIn (Or' _ members) env = SomeTrueIn members env
    IsTrueIn (Binary' op _ (more_of-Formula g _) _ (more_of-Formula h _)) env =
        OpTrue op (IsTrueIn g env) (IsTrueIn h env)
    IsTrueIn (ForAll' xs _ (more_of-Formula g _)) env = EveryValue xs (IsTrueIn g) env
    IsTrueIn (Exists' xs _ (more_of-Formula g _)) env = SomeValue xs (IsTrueIn g) env

    -- every member is true
    pub EachTrueIn : {n : _} → Row_of-Formula n → Assignment → Type 0
    EachTrueIn end_of-Formula env = Unit {0}
    EachTrueIn (more_of-Formula g rest) env = IsTrueIn g env × EachTrueIn rest env

    -- some member is true
    pub SomeTrueIn : {n : _} → Row_of-Formula n → Assignment → Type 0
    SomeTrueIn end_of-Formula env = ⊥
    SomeTrueIn (more_of-Formula g rest) env = IsTrueIn g env ⊎ SomeTrueIn rest env
