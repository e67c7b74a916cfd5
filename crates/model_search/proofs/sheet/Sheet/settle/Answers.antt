use Rattle.std.proofs.Common.{refl}
use Rattle.model_search.proofs.Sheets.{settled_goes}
use Rattle.model_search.proofs.sheet.Sheet.settle.Goals as goal

pub returns-clause-goes : goal.returns-clause-goes
returns-clause-goes c = rw (← c.self.view_is) (settled_goes _ _ refl refl refl)
