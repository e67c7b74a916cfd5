use Rattle.std.proofs.Common.{◌+◌, length, ap, ◌∙◌, arith}
use Rattle.instance_cursor.specs.Origins.{free_variables}
use Rattle.instance_cursor.specs.Cursors.{rest_of}
use Rattle.instance_cursor.proofs.Placed.{free_few}
use Rattle.instance_cursor.proofs.Given.{each_given, all_given, given_once}
use Rattle.instance_cursor.proofs.cursor.Cursor.start.Goals as goal

pub write_zeros-requires : goal.write_zeros-requires
write_zeros-requires c =
    let variables = ap (λ p. p.variables) c.self.view_is in
    let premises = ap (λ p. p.premises) c.self.view_is in
    let depths = c.write_origins-depths.ensures.depths in
    let few = free_few c.as_slice.result.now c.args.form.now.universals in
    let size = ap length c.as_slice.ensures in
    let asked = c.requires in
    let room = c.self.invariant.picks_fit in
    omega arith

pub returns-clause-each : goal.returns-clause-each
unfolding rest_of
returns-clause-each c =
    let depths = c.write_zeros.ensures.length ∙ c.write_origins-depths.ensures.depths ∙ ap (λ ps. length ps + length (free_variables ps c.args.form.now.universals)) c.as_slice.ensures in
    each_given c.args.form.now c.args.store.now.facts c.args.elements c.requires.below (length c.write_zeros.new.into.items) depths

pub returns-clause-all : goal.returns-clause-all
unfolding rest_of
returns-clause-all c =
    let depths = c.write_zeros.ensures.length ∙ c.write_origins-depths.ensures.depths ∙ ap (λ ps. length ps + length (free_variables ps c.args.form.now.universals)) c.as_slice.ensures in
    all_given c.args.form.now c.args.store.now.facts c.args.elements c.requires.below (length c.write_zeros.new.into.items) depths

pub returns-clause-once : goal.returns-clause-once
unfolding rest_of
returns-clause-once c =
    let depths = c.write_zeros.ensures.length ∙ c.write_origins-depths.ensures.depths ∙ ap (λ ps. length ps + length (free_variables ps c.args.form.now.universals)) c.as_slice.ensures in
    given_once c.args.form.now c.args.store.now.facts c.args.elements c.requires.below (length c.write_zeros.new.into.items) depths c.len.ensures.distinct
