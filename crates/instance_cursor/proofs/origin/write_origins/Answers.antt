use Rattle.std.proofs.Common.{◌+◌, ◌++◌, ◌∷◌, [], length, sym, ap, ◌∙◌, add-one, arith}
use Rattle.instance_cursor.specs.Origins.{origins_of}
use Rattle.instance_cursor.proofs.Placed.{free_few, length-origins, depths_more, depths_same}
use Rattle.instance_cursor.proofs.origin.write_origins.Goals as goal
use Rattle.instance_cursor.proofs.origin.write_origins.Goals.{then-origin-depths, else-origin-depths}

pub overflow_add-depths : goal.overflow_add-depths
overflow_add-depths c =
    let depths = c.loop-variable.invariant.depths in
    omega (arith, depths, c.requires.few, free_few c.args.premises.now c.loop-variable.variable)

pub loop-variable-preserved : goal.loop-variable-preserved
loop-variable-preserved c =
    let on = c.loop-variable.invariant in
    let variable = c.loop-variable.variable in
    let depth = ap (λ s. s.depth) c.origin_of-origin.ensures in
    let read = c.push_within.ensures.items ∙ (λ i. on.read i ++ c.origin_of-origin.ensures i ∷ []) ∙ ap (origins_of c.args.premises.now) (sym (add-one variable)) in record {
      read = read;
      count = ap length read ∙ length-origins c.args.premises.now (variable + 1);
      depths = elim c.if-origin-depths.branch [
        | then-origin-depths w ↦ w.depths-is ∙ ap (λ n. n + 1) on.depths ∙ sym (depths_more c.args.premises.now variable (sym depth ∙ w.if-origin-depths.true ∙ on.depths))
        | else-origin-depths w ↦ w.depths-is ∙ on.depths ∙ sym (depths_same c.args.premises.now variable (λ e. w.if-origin-depths.false (depth ∙ e ∙ sym on.depths)))
      ];
      room = omega (arith, on.room, c.push_within.ensures.capacity);
      capacity = omega (arith, on.capacity, c.push_within.ensures.capacity);
    }
