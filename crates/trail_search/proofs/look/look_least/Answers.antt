use Rattle.std.proofs.Common.{◌+◌, length, refl, subst, ◌∙◌}
use Rattle.vernacular_tree.specs.declared.context.Context.{Context}
use Rattle.coherent_form.specs.Tasks.{proof_task}
use Rattle.kept_context.specs.Kept.{Kept}
use Rattle.trail_search.specs.Recorded.{Recorded}
use Rattle.trail_search.specs.Searches.{IsNoted}
use Rattle.trail_search.proofs.Dead.{none_in_zero}
use Rattle.trail_search.proofs.Planned.{task_is, context_is}
use Rattle.trail_search.proofs.Ready.{represents_same}
use Rattle.trail_search.proofs.look.look_least.Goals as goal

pub loop-smaller-init : goal.loop-smaller-init
loop-smaller-init c = record {
  same = refl;
  cursors = c.requires.cursors;
  found = refl;
  none = λ body proves small. none_in_zero (proof_task c.args.scene.now.task.now) c.args.scene.now.lent.now body proves small;
}

pub returns-in-Never-clause-none : goal.returns-in-Never-clause-none
returns-in-Never-clause-none c = λ body proves small.
    let task = c.args.scene.now.task.now in
    let lent = c.args.scene.now.lent.now in
    c.in-Never.ensures (length task.tables.constants) (proof_task task) lent (task_is task c.requires.ready.task_is) (context_is task lent c.requires.ready.lent_is) c.parts_of-parts.ensures refl body proves

pub returns-then-look_within-clause-noted : goal.returns-then-look_within-clause-noted
returns-then-look_within-clause-noted c =
    let task = c.args.scene.now.task.now in
    let lent = c.args.scene.now.lent.now in
    let inv = c.loop-smaller.invariant in
    subst (λ (f : Recorded). IsNoted (proof_task task) lent (c.loop-smaller.smaller + 1) f c.look_within.new.found) inv.found
    (c.if-look_within.ensures.noted lent (represents_same task lent c.args.kept.now c.loop-smaller.kept lent inv.same c.requires.lent))

pub loop-smaller-preserved-in-NotWithin : goal.loop-smaller-preserved-in-NotWithin
loop-smaller-preserved-in-NotWithin c =
    let task = c.args.scene.now.task.now in
    let lent = c.args.scene.now.lent.now in
    record {
      same = c.loop-smaller.invariant.same;
      cursors = c.loop-smaller.invariant.cursors;
      found = c.loop-smaller.invariant.found;
      none = c.in-NotWithin.ensures (length task.tables.constants) (proof_task task) lent (task_is task c.requires.ready.task_is) (context_is task lent c.requires.ready.lent_is) c.parts_of-parts.ensures refl;
    }
