use Rattle.std.proofs.Common.{subst}
use Rattle.std.proofs.lemmas.Bool.{OnTrue_at, OnTrue_from}
use Rattle.coherent_form.specs.Tasks.{proof_task}
use Rattle.trail_search.specs.Recorded.{Recorded}
use Rattle.trail_search.specs.Searches.{IsNoted}
use Rattle.trail_search.proofs.Ready.{represents_same}
use Rattle.trail_search.proofs.look.look_within.Goals as goal

pub returns-clause-noted : goal.returns-clause-noted
returns-clause-noted c = OnTrue_from c.search.result _ (λ closed context r.
    let task = c.args.scene.now.task.now in
    subst (λ (f : Recorded). IsNoted (proof_task task) context c.args.budget f c.search.new.found) c.if-replay_whole.ensures.same
    (OnTrue_at closed c.search.ensures.noted context
    (represents_same task c.args.scene.now.lent.now c.args.kept.now c.replay_whole.new.kept context c.replay_whole.ensures.kept r)))
