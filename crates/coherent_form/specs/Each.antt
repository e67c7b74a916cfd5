-- The reading of a list of formulas in order, as code has the members of a formula.
use Rattle.std.specs.Prelude.{Bool, true, ◌&&◌, List, [], ◌∷◌, ◌++◌, length}
use Rattle.text_core.specs.Names.{Text}
use Rattle.text_core.specs.Numbered.{Tables}
use Rattle.logic_core.specs.declared.formula.Formula.{Formula}
use Rattle.logic_core.specs.declared.form.Atom.{Atom}
use Rattle.logic_core.specs.declared.form.Form.{Form}
use Rattle.coherent_form.specs.Offending.{is_plain}
use Rattle.coherent_form.specs.Reading.{with_names, alternatives_joined, head_joined, atoms_of, alternatives, head_of, forms_of}
use Rattle.coherent_form.specs.declared.alternative.Alternative.{Alternative}
use Rattle.coherent_form.specs.declared.alternative.Head.{Head}

-- the tables with the names of each
abbrev pub with_names_of_each : List Formula → Tables → Tables
with_names_of_each [] tables = tables
with_names_of_each (g ∷ gs) tables = with_names_of_each gs (with_names g tables)

-- whether each is plain
abbrev pub each_is_plain : List Formula → Bool
each_is_plain [] = true
each_is_plain (g ∷ gs) = is_plain g && each_is_plain gs

-- nothing is asked for
abbrev pub nothing : Alternative
nothing = record { variables = 0; atoms = [] }

-- nothing is concluded
abbrev pub no_disjunct : Head
no_disjunct = record { variables = 0; disjuncts = [] }

module _ (tables : Tables) (scope : List Text) where
  -- the atoms of each
  abbrev pub atoms_in : List Formula → List Atom
  atoms_in [] = []
  atoms_in (g ∷ gs) = atoms_of tables scope g ++ atoms_in gs

  -- every choice of an alternative of each
  abbrev pub choices_in : List Formula → List Alternative
  choices_in [] = nothing ∷ []
  choices_in (g ∷ gs) =
      alternatives_joined (length scope) (alternatives tables scope g) (choices_in gs)

  -- the alternatives of each
  abbrev pub offers_in : List Formula → List Alternative
  offers_in [] = []
  offers_in (g ∷ gs) = alternatives tables scope g ++ offers_in gs

  -- the conclusion that is any of them
  abbrev pub head_in : List Formula → Head
  head_in [] = no_disjunct
  head_in (g ∷ gs) = head_joined (length scope) (head_of tables scope g) (head_in gs)

  -- the forms of each
  abbrev pub forms_in : List Formula → List Form
  forms_in [] = []
  forms_in (g ∷ gs) = forms_of tables scope g ++ forms_in gs
