use Rattle.std.proofs.Common.{◌≢◌, ◌∙◌, List, sym, subst, arith}
use Rattle.std.proofs.lemmas.Option.{slice_get_within, get_or_from_slice_get}
use Rattle.logic_core.specs.declared.form.Atom.{Atom}
use Rattle.vernacular_tree.specs.declared.context.Line.{Line}
use Rattle.vernacular_tree.specs.declared.context.Line.TheVariants.{Facts}
use Rattle.proof_plans.specs.Ways.{IsSplitByLine}
use Rattle.proof_plans.proofs.Gathered.{all_also, below_more, below_all}
use Rattle.proof_plans.proofs.collect.push_lines.Goals as goal

pub loop-line-preserved : goal.loop-line-preserved
loop-line-preserved c =
    below_more _ _ _ (IsSplitByLine c.args.lines.now) c.loop-line.line c.loop-line.invariant
    (all_also _ _ _ _ c.if-not-push_split_line.ensures (λ way w. (
      subst (λ (given : Line). (facts : List Atom) → given ≢ Facts facts)
          (sym (c.index-lines-line.is ∙ get_or_from_slice_get c.args.lines.now c.loop-line.line w.given _ w.given_is)) w.no_facts,
      w.way_is,
    )))

pub returns : goal.returns
returns c = below_all _ _ (IsSplitByLine c.args.lines.now) c.loop-line.line c.loop-line.invariant
    (λ line way w. omega (arith, slice_get_within c.args.lines.now line w.given w.given_is, c.loop-line-test.false))
