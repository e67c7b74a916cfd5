use Rattle.std.proofs.Common.{◌≡◌, length, Some, None, sym, ap, ◌∙◌}
use Rattle.std.specs.List.{position}
use Rattle.std.proofs.lemmas.Option.{slice_get_read}
use Rattle.instance_cursor.specs.Origins.{is_variable}
use Rattle.instance_cursor.proofs.Placed.{first_occurrence-here, first_occurrence-later}
use Rattle.instance_cursor.proofs.origin.first_occurrence.Goals as goal

pub returns-in-Some : goal.returns-in-Some
returns-in-Some c =
    let atom = c.index-premises-depth.result in
    let here = slice_get_read c.args.premises.now (length c.args.premises.now) c.loop-depth.depth atom (λ _. length c.args.premises.now) c.loop-depth-test.true c.index-premises-depth.is in
    let at : position (is_variable c.args.variable) atom.args ≡ Some c.in-Some.position =
    ap (position (is_variable c.args.variable)) (sym c.as_slice.ensures) ∙ sym c.in-Some.ensures in
    sym (c.loop-depth.invariant ∙ first_occurrence-here c.args.variable c.loop-depth.depth c.args.premises.now atom here c.in-Some.position at)

pub loop-depth-preserved : goal.loop-depth-preserved
loop-depth-preserved c =
    let atom = c.index-premises-depth.result in
    let here = slice_get_read c.args.premises.now (length c.args.premises.now) c.loop-depth.depth atom (λ _. length c.args.premises.now) c.loop-depth-test.true c.index-premises-depth.is in
    let none : position (is_variable c.args.variable) atom.args ≡ None =
    ap (position (is_variable c.args.variable)) (sym c.as_slice.ensures) ∙ sym c.in_default.ensures in
    c.loop-depth.invariant ∙ first_occurrence-later c.args.variable c.loop-depth.depth c.args.premises.now atom here none
