use Rattle.std.proofs.Common.{length, slice_get}
use Rattle.logic_core.specs.Truth.{structure}
use Rattle.logic_core.specs.Forms.{interpretation}
use Rattle.text_core.specs.Numbered.{text_or_empty}
use Rattle.vernacular_tree.proofs.Truths.{goal_true}
use Rattle.vernacular_tree.proofs.law.soundness.Goals as goal

pub returns : goal.returns
returns g c tables task body k right proves forms universals given premises =
    goal_true (interpretation (structure (g.W.World.element k) (g.W.World.holds k) (g.W.World.place k)) tables)
    (length tables.constants) task right universals
    (λ c. g.W.World.placed k (text_or_empty (slice_get tables.constants c)))
    (g.W.World.some k) (g.W.World.inhabited k) given premises forms body proves
