use Rattle.logic_core.specs.Truth.{structure}
use Rattle.coherent_form.proofs.BuiltInLaws.{built_in_true}
use Rattle.coherent_form.proofs.built_in_law.built_ins_are_true.Goals as goal

pub returns : goal.returns
returns g c tables b k = built_in_true (structure (g.W.World.element k) (g.W.World.holds k) (g.W.World.place k)) tables b
