use Rattle.std.proofs.Common.{◌∙◌, sym, subst, arith}
use Rattle.std.proofs.lemmas.Option.{slice_get_within, get_or_from_slice_get}
use Rattle.vernacular_tree.specs.declared.context.Line.{Line}
use Rattle.proof_plans.specs.Ways.{IsByLine, IsByGiven}
use Rattle.proof_plans.proofs.Gathered.{all_also, below_more, below_all}
use Rattle.proof_plans.proofs.collect.push_given.Goals as goal

pub loop-line-preserved : goal.loop-line-preserved
loop-line-preserved c =
    below_more _ _ _ (IsByGiven c.args.atom.now c.args.lines.now) c.loop-line.line c.loop-line.invariant
    (all_also _ _ _ _ c.if-not-push_line_facts.ensures (λ way w. subst (λ (given : Line). IsByLine c.args.atom.now given c.loop-line.line way)
    (sym (c.index-lines-line.is ∙ get_or_from_slice_get c.args.lines.now c.loop-line.line w.given _ w.given_is)) w.by))

pub returns : goal.returns
returns c = below_all _ _ (IsByGiven c.args.atom.now c.args.lines.now) c.loop-line.line c.loop-line.invariant
    (λ line way w. omega (arith, slice_get_within c.args.lines.now line w.given w.given_is, c.loop-line-test.false))
