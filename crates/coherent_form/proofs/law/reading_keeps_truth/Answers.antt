use Rattle.logic_core.specs.Truth.{structure}
use Rattle.coherent_form.proofs.Readings.{forms_same}
use Rattle.coherent_form.proofs.law.reading_keeps_truth.Goals as goal

pub returns-clause-forms : goal.returns-clause-forms
returns-clause-forms g c tables after longer f forms k closed reads extends =
    (forms_same tables after f forms reads closed (structure (g.W.World.element k) (g.W.World.holds k) (g.W.World.place k)) longer extends
    (g.W.World.some k) (g.W.World.inhabited k)).0

pub returns-clause-formula : goal.returns-clause-formula
returns-clause-formula g c tables after longer f forms k closed reads extends =
    (forms_same tables after f forms reads closed (structure (g.W.World.element k) (g.W.World.holds k) (g.W.World.place k)) longer extends
    (g.W.World.some k) (g.W.World.inhabited k)).1
