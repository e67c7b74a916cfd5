-- What follows where a check ends with 0.
use Rattle.std.specs.Prelude.{List, IfSome}
use Rattle.text_core.specs.Names.{Text}
use Rattle.logic_core.specs.Truth.{Structure}
use Rattle.logic_core.specs.Problems.{Follows}
use Rattle.logic_core.specs.declared.problem.Fof.{Fof}
use Rattle.io_core.specs.Known.{Known}
use Rattle.include_flat.specs.Flattened.{IsFlat}

-- the problem follows in a structure: if its premises are true there, its conjecture is
abbrev pub ProblemFollows : Structure → Known → Text → Type 0
ProblemFollows s files problem = IfSome files.held (λ held.
    (formulas : List Fof) × IsFlat held problem formulas × Follows s formulas)
