use Rattle.logic_core.specs.Truth.{structure}
use Rattle.coherent_form.proofs.BuiltInLaws.{built_in_true, built_ins_formed}
use Rattle.coherent_form.proofs.Following.{proved_follows}
use Rattle.coherent_form.proofs.task_law.proved_task_follows.Goals as goal

pub returns : goal.returns
returns g c problem task body k allowed is proves =
    proved_follows built_in_true built_ins_formed (structure (g.W.World.element k) (g.W.World.holds k) (g.W.World.place k))
    (g.W.World.placed k) (g.W.World.some k) (g.W.World.inhabited k) problem task body allowed is proves
