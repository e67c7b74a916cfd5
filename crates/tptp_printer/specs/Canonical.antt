-- The canonical text of a problem: one item a line, blanks and brackets in one way. Source: the
-- TPTP syntax, FOF.
use Rattle.std.specs.Prelude.{List, [], ◌∷◌, ◌++◌, map, Option, Some, None, codes}
use Rattle.text_core.specs.Names.{Text}
use Rattle.logic_core.specs.declared.formula.Term.{Term}
use Rattle.logic_core.specs.declared.formula.Term.TheVariants.{Variable, Constant}
use Rattle.logic_core.specs.declared.formula.Op.{Op}
use Rattle.logic_core.specs.declared.formula.Op.TheVariants as op
use Rattle.logic_core.specs.declared.formula.Formula.{Formula, True, False, Pred, Equal, Not', And', Or', Binary', ForAll', Exists', Row_of-Formula, end_of-Formula, more_of-Formula}
use Rattle.logic_core.specs.declared.problem.Fof.{Fof}
use Rattle.logic_core.specs.declared.problem.Item.{Item}
use Rattle.logic_core.specs.declared.problem.Item.TheVariants.{Fof as ItemFof, Include}
pub use Rattle.tptp_lexer.specs.Written.{escaped, quoted_text, word_text, name_text, joined_texts}
use Rattle.tptp_grammar.specs.Roles.{role_text}

-- a term
abbrev pub term_text : Term → Text
term_text (Variable x) = x
term_text (Constant c) = word_text c

-- the arguments of an atom in brackets; nothing where there are none
abbrev pub arguments_text : List Term → Text
arguments_text [] = []
arguments_text (t ∷ ts) =
    codes "(" ++ joined_texts (codes ",") (map term_text (t ∷ ts)) ++ codes ")"

-- the sign of a connective
abbrev pub op_text : Op → Text
op_text op.Implies = codes "=>"
op_text op.Implied = codes "<="
op_text op.Iff = codes "<=>"
op_text op.Xor = codes "<~>"
op_text op.Nor = codes "~|"
op_text op.Nand = codes "~&"

-- the text of a formula inside another one: in brackets where it is a chain or has a connective
-- between two sides
abbrev pub in_unit : Formula → Text → Text
in_unit (And' n members) text = codes "(" ++ text ++ codes ")"
in_unit (Or' n members) text = codes "(" ++ text ++ codes ")"
in_unit (Binary' o n g m h) text = codes "(" ++ text ++ codes ")"
in_unit f text = text

-- a quantifier's variables, and a blank behind the colon
abbrev pub variables_text : List Text → Text
variables_text xs = codes "[" ++ joined_texts (codes ",") xs ++ codes "] : "

abbrev mutual
  pub formula_text : Formula → Text
  formula_text True = codes "$true"
  formula_text False = codes "$false"
  formula_text (Pred p ts) = word_text p ++ arguments_text ts
  formula_text (Equal t u) = term_text t ++ codes " = " ++ term_text u
  formula_text (Not' _ (more_of-Formula (Equal t u) _)) = term_text t ++ codes " != " ++ term_text u
  formula_text (Not' _ (more_of-Formula g _)) = codes "~ " ++ in_unit g (formula_text g)
  formula_text (And' _ members) = chain_text (codes " & ") members
  formula_text (Or' _ members) = chain_text (codes " | ") members
  formula_text (Binary' o _ (more_of-Formula g _) _ (more_of-Formula h _)) =
      in_unit g (formula_text g) ++ codes " " ++ op_text o ++ codes " " ++
      in_unit h (formula_text h)
  formula_text (ForAll' xs _ (more_of-Formula g _)) =
      codes "! " ++ variables_text xs ++ in_unit g (formula_text g)
  formula_text (Exists' xs _ (more_of-Formula g _)) =
      codes "? " ++ variables_text xs ++ in_unit g (formula_text g)

  -- the members of a chain with a separator between each two
  pub chain_text : Text → {n : _} → Row_of-Formula n → Text
  chain_text separator end_of-Formula = []
  chain_text separator (more_of-Formula g end_of-Formula) = in_unit g (formula_text g)
  chain_text separator (more_of-Formula g (more_of-Formula h rest)) =
      in_unit g (formula_text g) ++ separator ++ chain_text separator (more_of-Formula h rest)

-- what follows an inclusion's file
abbrev pub selection_text : Option (List Text) → Text
selection_text None = []
selection_text (Some names) =
    codes ",[" ++ joined_texts (codes ",") (map name_text names) ++ codes "]"

-- an item, with a line feed (10) at its end
abbrev pub item_text : Item → Text
item_text (ItemFof fof) =
    codes "fof(" ++ name_text fof.name ++ codes "," ++ role_text fof.role ++ codes "," ++
    formula_text fof.formula ++ codes ")." ++ (10 ∷ [])
item_text (Include file only) =
    codes "include(" ++ quoted_text file ++ selection_text only ++ codes ")." ++ (10 ∷ [])

-- items one after another
abbrev pub items_text : List Item → Text
items_text [] = []
items_text (item ∷ items) = item_text item ++ items_text items

-- the formulas of a problem one after another
abbrev pub problem_text : List Fof → Text
problem_text fofs = items_text (map ItemFof fofs)
