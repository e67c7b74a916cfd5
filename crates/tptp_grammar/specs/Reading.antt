-- How the reader goes through the tokens of a text, from left to right. It reads what is a text of
-- the grammar already, so it looks only at what it needs.
use Rattle.std.specs.Prelude.{◌≡◌, ℕ, zero, suc, List, [], ◌∷◌, length, Option, Some, None, codes, if◌then◌else◌}
use Rattle.std.specs.Option.{option_and_then}
use Rattle.std.specs.Str.{bytes_eq}
use Rattle.std.specs.List.{AllByRecursion}
use Rattle.text_core.specs.Names.{Text}
use Rattle.logic_core.specs.Allowed.{ItemIsAllowed}
use Rattle.logic_core.specs.declared.formula.Term.{Term}
use Rattle.logic_core.specs.declared.formula.Term.TheVariants.{Variable, Constant}
use Rattle.logic_core.specs.declared.formula.Op.{Op}
use Rattle.logic_core.specs.declared.formula.Op.TheVariants as op
use Rattle.logic_core.specs.declared.formula.Formula.{Formula, True, False, Pred, Equal, Not, And, Or, Binary, ForAll, Exists}
use Rattle.logic_core.specs.declared.problem.Role.{Role}
use Rattle.logic_core.specs.declared.problem.Item.{Item}
use Rattle.logic_core.specs.declared.problem.Item.TheVariants.{Fof as ItemFof, Include}
use Rattle.tptp_lexer.specs.declared.kind.Kind.{Kind}
use Rattle.tptp_lexer.specs.declared.kind.Kind.TheVariants as kind
use Rattle.tptp_lexer.specs.declared.reader.Naming.TheVariants as naming
use Rattle.tptp_lexer.specs.Tokens.{Token, name_of}
use Rattle.tptp_lexer.specs.Same.{same_kind}
use Rattle.tptp_lexer.specs.Reading.{Read, behind, reread, with_front, more_from, listed_from, name_from, names_from}
use Rattle.text_core.specs.declared.limits.TheConstants.{MOST_LEVELS}
use Rattle.tptp_grammar.specs.RoleWords.{role_of}

-- a term
abbrev pub term_at : Kind → Text → List Token → Read Term
term_at kind.Upper name ts = Some (Variable name, ts)
term_at kind.Lower name ts = Some (Constant name, ts)
term_at kind.Quoted name ts = Some (Constant name, ts)
term_at _ name ts = None

unfoldable pub term_from : List Token → Read Term
term_from [] = None
term_from (t ∷ ts) = term_at t.kind (name_of t) ts

-- an equation or an inequality behind its left side
abbrev pub equation_at : Kind → Term → List Token → Read Formula
equation_at kind.Equal s ts = reread (Equal s) (term_from ts)
equation_at kind.NotEqual s ts = reread (λ u. Not (Equal s u)) (term_from ts)
equation_at _ s ts = None

unfoldable pub equation_from : Term → List Token → Read Formula
equation_from s [] = None
equation_from s (t ∷ ts) = equation_at t.kind s ts

-- an atom behind its first word
abbrev pub atom_at : Kind → Text → Token → List Token → Read Formula
atom_at kind.OpenParenthesis name t ts =
    reread (Pred name) (listed_from term_from kind.CloseParenthesis ts)
atom_at kind.Equal name t ts = equation_from (Constant name) (t ∷ ts)
atom_at kind.NotEqual name t ts = equation_from (Constant name) (t ∷ ts)
atom_at _ name t ts = Some (Pred name [], t ∷ ts)

unfoldable pub atom_from : Text → List Token → Read Formula
atom_from name [] = Some (Pred name [], [])
atom_from name (t ∷ ts) = atom_at t.kind name t ts

-- a quantified formula behind its `!` or `?`
abbrev pub quantified_from : (List Text → Formula → Formula) → (List Token → Read Formula) →
    List Token → Read Formula
quantified_from quantifier below ts = option_and_then (λ (xs : List Text × List Token).
    option_and_then (λ ts. reread (quantifier xs.0) (below ts)) (behind kind.Colon xs.1))
    (names_from naming.OfVariable ts)

-- a formula in brackets behind the opening one
abbrev pub bracketed_from : (List Token → Read Formula) → List Token → Read Formula
bracketed_from inside ts = option_and_then (λ (read : Formula × List Token).
    option_and_then (λ ts. Some (read.0, ts)) (behind kind.CloseParenthesis read.1)) (inside ts)

-- `$true`, or else `$false`
abbrev pub truth_from : Text → List Token → Read Formula
truth_from text ts = if bytes_eq text (codes "$true") then Some (True, ts) else Some (False, ts)

-- a unit formula by its first token, where what is in brackets and what is below a `~` or a
-- quantifier are read so
abbrev pub unit_of : (below inside : List Token → Read Formula) → Kind → Token → List Token →
    Read Formula
unit_of below inside kind.OpenParenthesis t ts = bracketed_from inside ts
unit_of below inside kind.Tilde t ts = reread Not (below ts)
unit_of below inside kind.Exclamation t ts = quantified_from ForAll below ts
unit_of below inside kind.Question t ts = quantified_from Exists below ts
unit_of below inside kind.Dollar t ts = truth_from t.text ts
unit_of below inside kind.Lower t ts = atom_from (name_of t) ts
unit_of below inside kind.Quoted t ts = atom_from (name_of t) ts
unit_of below inside kind.Upper t ts = equation_from (Variable (name_of t)) ts
unit_of below inside _ t ts = None

unfoldable pub unit_with : (below inside : List Token → Read Formula) → List Token → Read Formula
unit_with below inside [] = None
unit_with below inside (t ∷ ts) = unit_of below inside t.kind t ts

-- the connective that a kind tells
abbrev pub op_of : Kind → Option Op
op_of kind.Implies = Some op.Implies
op_of kind.Implied = Some op.Implied
op_of kind.Iff = Some op.Iff
op_of kind.Xor = Some op.Xor
op_of kind.Nor = Some op.Nor
op_of kind.Nand = Some op.Nand
op_of _ = None

-- a formula behind its first unit
abbrev pub side_of : (List Token → Read Formula) → Option Op → Formula → Token → List Token →
    Read Formula
side_of unit None g t ts = Some (g, t ∷ ts)
side_of unit (Some o) g t ts = reread (Binary o g) (unit ts)

abbrev pub chain_from : (List Token → Read Formula) → Kind → (List Formula → Formula) → Formula →
    List Token → Read Formula
chain_from unit k joined g ts = reread (λ gs. joined (g ∷ gs)) (more_from unit k (length ts) ts)

abbrev pub rest_at : (List Token → Read Formula) → Kind → Formula → Token → List Token →
    Read Formula
rest_at unit kind.Ampersand g t ts = chain_from unit kind.Ampersand And g (t ∷ ts)
rest_at unit kind.Bar g t ts = chain_from unit kind.Bar Or g (t ∷ ts)
rest_at unit k g t ts = side_of unit (op_of k) g t ts

unfoldable pub rest_from : (List Token → Read Formula) → Formula → List Token → Read Formula
rest_from unit g [] = Some (g, [])
rest_from unit g (t ∷ ts) = rest_at unit t.kind g t ts

abbrev pub formula_with : (List Token → Read Formula) → List Token → Read Formula
formula_with unit ts =
    option_and_then (λ (read : Formula × List Token). rest_from unit read.0 read.1) (unit ts)

-- nothing is read where no level may be opened
abbrev pub nothing : List Token → Read Formula
nothing ts = None

-- what is below a `~` or a quantifier and what is in brackets, where so many levels may be opened
unfoldable pub levels : ℕ → (List Token → Read Formula) × (List Token → Read Formula)
levels zero = (nothing, nothing)
levels (suc depth) =
    let unit = unit_with (levels depth).0 (levels depth).1 in (unit, formula_with unit)

abbrev pub below_at : ℕ → List Token → Read Formula
below_at depth = (levels depth).0

abbrev pub inside_at : ℕ → List Token → Read Formula
inside_at depth = (levels depth).1

-- a unit formula, and a formula, where so many levels may be opened
unfoldable pub unit_at : ℕ → List Token → Read Formula
unit_at depth ts = unit_with (below_at depth) (inside_at depth) ts

unfoldable pub formula_at : ℕ → List Token → Read Formula
formula_at depth ts = formula_with (unit_at depth) ts

-- what is left behind the first dot
unfoldable pub behind_dot : List Token → Option (List Token)
behind_dot [] = None
behind_dot (t ∷ ts) = if same_kind t.kind kind.Dot then Some ts else behind_dot ts

-- an item up to its dot
abbrev pub ended : {X : Type 0} → X × List Token → Read X
ended read = option_and_then (λ ts. Some (read.0, ts)) (behind_dot read.1)

-- a role
unfoldable pub role_from : List Token → Read Role
role_from [] = None
role_from (t ∷ ts) = option_and_then (λ role. Some (role, ts)) (role_of t.text)

-- a formula's item behind its name
abbrev pub fof_behind : ℕ → Text × List Token → Read Item
fof_behind depth name = option_and_then (λ ts.
    option_and_then (λ (role : Role × List Token). option_and_then (λ ts. option_and_then ended
    (reread (λ f. ItemFof (record { name = name.0; role = role.0; formula = f }))
    (formula_at depth ts)))
    (behind kind.Comma role.1)) (role_from ts)) (behind kind.Comma name.1)

unfoldable pub fof_from : ℕ → List Token → Read Item
fof_from depth ts =
    option_and_then (λ ts. option_and_then (fof_behind depth) (name_from naming.OfFormula ts))
    (behind kind.OpenParenthesis ts)

-- a selection, where a comma is before it
abbrev pub selection_from : Option (List Token) → List Token → Read (Option (List Text))
selection_from None ts = Some (None, ts)
selection_from (Some rest) ts = reread Some (names_from naming.OfFormula rest)

-- an inclusion behind its file
abbrev pub include_behind : Text × List Token → Read Item
include_behind file = option_and_then ended
    (reread (Include file.0) (selection_from (behind kind.Comma file.1) file.1))

unfoldable pub include_from : List Token → Read Item
include_from ts =
    option_and_then (λ ts. option_and_then include_behind (name_from naming.OfFile ts))
    (behind kind.OpenParenthesis ts)

-- an item
unfoldable pub item_from : ℕ → List Token → Read Item
item_from depth [] = None
item_from depth (t ∷ ts) =
    if bytes_eq t.text (codes "fof") then fof_from depth ts else include_from ts

-- all items, at most so many
unfoldable pub items_from : ℕ → ℕ → List Token → Read (List Item)
items_from depth most [] = Some ([], [])
items_from depth zero (t ∷ ts) = None
items_from depth (suc most) (t ∷ ts) = option_and_then (λ (read : Item × List Token).
    with_front (read.0 ∷ []) (items_from depth most read.1)) (item_from depth (t ∷ ts))

-- the tokens are read up to their end, and the items may be in a problem's text
pub record IsReadable (ts : List Token) : Type 0 where
  pub items : List Item
  pub is_read : items_from MOST_LEVELS (length ts) ts ≡ Some (items, [])
  pub allowed : AllByRecursion ItemIsAllowed items
