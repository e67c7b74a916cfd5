use Rattle.std.proofs.Common.{◌∙◌, sym, subst, arith}
use Rattle.std.proofs.lemmas.Option.{slice_get_within, get_or_from_slice_get}
use Rattle.logic_core.specs.declared.form.Atom.{Atom}
use Rattle.proof_plans.specs.Ways.{IsByFact, IsByNumber}
use Rattle.proof_plans.proofs.Gathered.{all_also, below_more, below_all}
use Rattle.proof_plans.proofs.collect.push_facts.Goals as goal

pub loop-number-preserved : goal.loop-number-preserved
loop-number-preserved c =
    below_more _ _ _ (IsByNumber c.args.atom.now c.args.facts.now c.args.kind) c.loop-number.number c.loop-number.invariant
    (all_also _ _ _ _ c.if-not-push_fact.ensures (λ way w. subst (λ (fact : Atom). IsByFact c.args.atom.now fact c.args.kind c.loop-number.number way)
    (sym (c.index-facts-number.is ∙ get_or_from_slice_get c.args.facts.now c.loop-number.number w.fact _ w.fact_is)) w.by))

pub returns : goal.returns
returns c = below_all _ _ (IsByNumber c.args.atom.now c.args.facts.now c.args.kind) c.loop-number.number c.loop-number.invariant
    (λ number way w. omega (arith, slice_get_within c.args.facts.now number w.fact w.fact_is, c.loop-number-test.false))
