-- Tasks and proofs whose names are texts of names and whose numbers are below 2 ^ 32, as those of
-- all values in code are.
use Rattle.std.specs.Prelude.{◌≤◌}
use Rattle.std.specs.List.{AllByRecursion}
use Rattle.text_core.specs.NameTexts.{IsNameText}
use Rattle.text_core.specs.Numbered.{Symbol, Tables}
use Rattle.vernacular_tree.specs.declared.tree.Body.{Body}
use Rattle.vernacular_tree.specs.declared.tree.End.{End, As, Efq, Cs', Row_of-Body, end_of-Body, more_of-Body}
use Rattle.proof_text.specs.Marks.{most_number}

-- a symbol has a name
abbrev pub SymbolIsNamed : Symbol → Type 0
SymbolIsNamed symbol = IsNameText symbol.name

-- each symbol and each constant has a name
pub record TablesAreNamed (tables : Tables) : Type 0 where
  pub symbols : AllByRecursion SymbolIsNamed tables.symbols
  pub constants : AllByRecursion IsNameText tables.constants

abbrev mutual
  -- the disjunct of each end has a number of 32 bits
  pub EndFits : End → Type 0
  EndFits (As disjunct args) = disjunct ≤ most_number
  EndFits Efq = Unit {0}
  EndFits (Cs' line _ branches) = BranchesFit branches

  pub BranchesFit : {n : _} → Row_of-Body n → Type 0
  BranchesFit end_of-Body = Unit {0}
  BranchesFit (more_of-Body steps end rest) = EndFits end × BranchesFit rest

abbrev pub BodyFits : Body → Type 0
BodyFits body = EndFits body.end
