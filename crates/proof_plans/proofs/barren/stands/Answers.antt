use Rattle.proof_plans.proofs.Parted.{on_success}
use Rattle.proof_plans.proofs.Repeats.{given_stands}
use Rattle.proof_plans.proofs.barren.stands.Goals as goal

pub returns-then-is_given : goal.returns-then-is_given
returns-then-is_given c = on_success c.is_given.result c.is_given.ensures (λ given.
    given_stands c.args.scene.now c.args.draft.now c.args.read.now.base c.args.read.now.atom.now given c.args.step)
