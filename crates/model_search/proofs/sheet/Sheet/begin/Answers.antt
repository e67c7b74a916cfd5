use Rattle.std.proofs.Common.{sym, subst}
use Rattle.model_search.specs.Sheets.{IsSuited}
use Rattle.model_search.proofs.sheet.Sheet.begin.Goals as goal

pub returns : goal.returns
returns c = λ candidate suited. subst (IsSuited candidate) (sym c.self.view_is) suited
