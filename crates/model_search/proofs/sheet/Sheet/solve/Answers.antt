use Rattle.std.proofs.Common.{sym, subst}
use Rattle.model_search.specs.Sheets.{IsSuited}
use Rattle.model_search.proofs.Keys.{said, said_agrees}
use Rattle.model_search.proofs.sheet.Sheet.solve.Goals as goal

pub returns-clause-suited : goal.returns-clause-suited
returns-clause-suited c = λ candidate suited sigma agrees.
    c.solve.ensures.kept sigma (subst (IsSuited candidate) (sym c.self.view_is) suited sigma agrees)

pub returns-clause-none : goal.returns-clause-none
returns-clause-none c = λ none candidate suited.
    c.solve.ensures.none none (said candidate c.self.inside.keys.keys)
    (subst (IsSuited candidate) (sym c.self.view_is) suited (said candidate c.self.inside.keys.keys) (said_agrees candidate c.self.inside.keys.keys))
