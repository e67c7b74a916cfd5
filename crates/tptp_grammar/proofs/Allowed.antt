-- Items that are spelled and closed may be in a problem: where a formula is spelled, at most `MOST_LEVELS` levels are open.
use Rattle.std.specs.Prelude.{◌≡◌, ℕ, ◌+◌, ◌≤◌, max, Bool, true, false, List, [], ◌∷◌, Option, Some, None}
use Rattle.std.proofs.Common.{refl, ap, arith}
use Rattle.std.specs.List.{AllByRecursion}
use Rattle.text_core.specs.Names.{Text}
use Rattle.text_core.specs.declared.limits.TheConstants.{MOST_LEVELS}
use Rattle.logic_core.specs.Allowed.{depth, greatest_depth, nesting, ItemIsAllowed}
use Rattle.logic_core.proofs.Laws.{row_of, Not_opens, And_opens, Or_opens, Binary_opens, Exists_opens, depth-ForAll}
use Rattle.logic_core.specs.declared.formula.Term.{Term}
use Rattle.logic_core.specs.declared.formula.Op.{Op}
use Rattle.logic_core.specs.declared.formula.Formula.{Formula, True, Equal, Not, Binary, Not', And', Or', Binary', end_of-Formula, more_of-Formula}
use Rattle.logic_core.specs.declared.formula.Formula.TheBlock.{shape-the_row-Formula-0}
use Rattle.logic_core.specs.declared.problem.Item.{Item}
use Rattle.logic_core.specs.declared.problem.Item.TheVariants.{Fof as ItemFof, Include}
use Rattle.tptp_lexer.specs.declared.kind.Kind.{Kind}
use Rattle.tptp_lexer.specs.Tokens.{Token}
use Rattle.tptp_grammar.specs.Spells.{SpellsFormula, SpellsRest, SpellsUnitary, SpellsSelection, SpellsItem, SpellsItems, Chain, chain_of, Quantifier, quantify, truth_formula, ItemIsClosed}
use Rattle.tptp_grammar.specs.Spells.Quantifier.{for_all, there_is}
use Rattle.tptp_grammar.specs.Spells.Chain.{conjunction, disjunction}
use Rattle.tptp_grammar.specs.Spells.SpellsFormula.{alone, chain, binary}
use Rattle.tptp_grammar.specs.Spells.SpellsRest.{end, further}
use Rattle.tptp_grammar.specs.Spells.SpellsUnitary.{brackets, negation, quantified, truth, atom, equation, inequality}

-- a whole formula is nested as deep as it is inside another one, or one less
shallower : (f : Formula) → (nesting f ≤ depth f) × (depth f ≤ nesting f + 1)
shallower True = (omega arith, omega arith)
shallower (And' shape members) = (omega arith, omega arith)
shallower (Or' shape members) = (omega arith, omega arith)
shallower (Binary' op shape (more_of-Formula g gs) other (more_of-Formula h hs)) = (omega arith, omega arith)
shallower f = (omega arith, omega arith)

-- a negation is one deeper than its formula at most
negated : (g : Formula) → depth (Not' (shape-the_row-Formula-0 g) (more_of-Formula g end_of-Formula)) ≤ depth g + 1
negated (Equal s u) = omega arith
negated g = omega arith

-- how deep the formulas are that code builds
depth-Not : (g : Formula) → depth (Not g) ≤ depth g + 1
depth-Not g = rw (Not_opens g) (negated g)

-- an inequality opens nothing
depth-inequality : (s u : Term) → depth (Not (Equal s u)) ≡ 0
depth-inequality s u = ap depth (Not_opens (Equal s u))

-- a quantified formula is one deeper than its body
depth-quantify : (q : Quantifier) (xs : List Text) (g : Formula) → depth (quantify q xs g) ≡ depth g + 1
depth-quantify for_all xs g = depth-ForAll xs g
depth-quantify there_is xs g = ap depth (Exists_opens xs g)

-- a truth value opens nothing
depth-truth : (value : Bool) → depth (truth_formula value) ≡ 0
depth-truth true = refl
depth-truth false = refl

-- a chain is nested as deep as its deepest member
nesting-chain : (c : Chain) (gs : List Formula) → nesting (chain_of c gs) ≡ greatest_depth (row_of gs)
nesting-chain conjunction gs = ap nesting (And_opens gs)
nesting-chain disjunction gs = ap nesting (Or_opens gs)

-- a connective is nested as deep as its deeper side
nesting-Binary : (op : Op) (g h : Formula) → nesting (Binary op g h) ≡ max (depth g) (depth h)
nesting-Binary op g h = ap nesting (Binary_opens op g h)

-- the deepest of a row, from its first member on
greatest_depth-row : (g : Formula) (gs : List Formula) → greatest_depth (row_of (g ∷ gs)) ≡ max (depth g) (greatest_depth (row_of gs))
unfolding row_of
greatest_depth-row g gs = refl

-- an empty row is not too deep
none_within : (level : ℕ) → level ≤ MOST_LEVELS → greatest_depth (row_of []) + level ≤ MOST_LEVELS
unfolding row_of
none_within level low = omega arith

mutual
  -- a formula is not nested too deep
  formula_within : {level : ℕ} {f : Formula} {ts : List Token} → SpellsFormula level f ts → level ≤ MOST_LEVELS → nesting f + level ≤ MOST_LEVELS
  formula_within (alone {f = f} s) low = let less = shallower f in let within = unitary_within s low in omega arith
  formula_within (chain c g h gs us vs s rest is split) low =
      let made = ap nesting is in let opened = nesting-chain c (g ∷ h ∷ gs) in let all = greatest_depth-row g (h ∷ gs) in
      let first = unitary_within s low in let others = rest_within rest low in omega arith
  formula_within (binary o g h us between vs s k r is split) low =
      let made = ap nesting is in let opened = nesting-Binary o g h in
      let first = unitary_within s low in let second = unitary_within r low in omega arith

  -- further members are not too deep
  rest_within : {k : Kind} {level : ℕ} {gs : List Formula} {ts : List Token} → SpellsRest k level gs ts → level ≤ MOST_LEVELS →
      greatest_depth (row_of gs) + level ≤ MOST_LEVELS
  rest_within {level = level} end low = none_within level low
  rest_within (further {g = g} {gs = gs} before us vs k s rest split) low =
      let all = greatest_depth-row g gs in let first = unitary_within s low in let others = rest_within rest low in omega arith

  -- a unit formula is not too deep
  unitary_within : {level : ℕ} {f : Formula} {ts : List Token} → SpellsUnitary level f ts → level ≤ MOST_LEVELS → depth f + level ≤ MOST_LEVELS
  unitary_within (brackets {f = f} first ts last low k s l split) within =
      let less = shallower f in let inner = formula_within s (omega arith) in omega arith
  unitary_within (negation g first ts low k s is split) within =
      let made = ap depth is in let one = depth-Not g in let inner = unitary_within s (omega arith) in omega arith
  unitary_within (quantified q xs g first us colon vs low k x c s is split) within =
      let made = ap depth is in let one = depth-quantify q xs g in let inner = unitary_within s (omega arith) in omega arith
  unitary_within (truth value t k text is split) within =
      let made = ap depth is in let none = depth-truth value in omega arith
  unitary_within (atom word arguments ts w a is split) within = let made = ap depth is in omega arith
  unitary_within (equation s u us between vs l k r is split) within = let made = ap depth is in omega arith
  unitary_within (inequality s u us between vs l k r is split) within =
      let made = ap depth is in let none = depth-inequality s u in omega arith

-- a selection that is spelled has a name
selected : (only : Option (List Text)) (file : Text) (ts : List Token) → SpellsSelection only ts → ItemIsAllowed (Include file only)
selected None file ts s = tt
selected (Some []) file ts s = s.3.listed
selected (Some (name ∷ names)) file ts s = tt

-- an item that is spelled and closed may be in a problem
item_allowed : (item : Item) (ts : List Token) → SpellsItem item ts → ItemIsClosed item → ItemIsAllowed item
item_allowed (ItemFof fof) ts s closed =
    let within = formula_within s.spelled (omega arith) in record { closed = closed; shallow = omega arith }
item_allowed (Include file only) ts s closed = selected only file s.selection s.selected

-- items that are spelled and closed may be in a problem
pub items_allowed : (ts : List Token) (items : List Item) → SpellsItems items ts → AllByRecursion ItemIsClosed items →
    AllByRecursion ItemIsAllowed items
items_allowed ts [] s closed = tt
items_allowed ts (item ∷ items) (us, vs, first, rest, split) (closed, others) =
    (item_allowed item us first closed, items_allowed vs items rest others)
