use Rattle.std.proofs.Common.{◌≡◌, ◌<◌, ◌∙◌, ℕ, List, ap, subst, length, arith}
use Rattle.proof_plans.specs.declared.draft.ListOf as ListOf
use Rattle.proof_plans.specs.declared.draft.Node.{Node}
use Rattle.proof_plans.specs.Splits.{numbered_list, with_child, with_children}
use Rattle.proof_plans.proofs.Parted.{on_success, some_item, closes_one, with_children_none, with_children_more}
use Rattle.proof_plans.proofs.apply.push_split.Goals as goal

pub loop-case-init : goal.loop-case-init
loop-case-init c = record {
  rooted = subst (λ (ns : List Node). 0 < length ns) c.nodes.ensures (some_item c.nodes.result.now c.if-is_empty.ensures);
  pushed = with_children_none c.args.of c.args.node c.args.draft.now;
}

pub loop-case-preserved : goal.loop-case-preserved
loop-case-preserved c =
    let child : Node = record { parent = c.args.node; of = numbered_list c.args.of c.loop-case.case } in record {
      rooted = c.loop-case.invariant.rooted;
      pushed = c.if-not-push_child.ensures
          ∙ ap (λ (of : ListOf.ListOf). with_child (record { parent = c.args.node; of = of }) c.loop-case.draft) c.with_case.ensures
          ∙ ap (with_child child) c.loop-case.invariant.pushed
          ∙ with_children_more c.args.of c.args.node c.loop-case.case c.args.draft.now;
    }

pub returns : goal.returns
returns c =
    let count : c.loop-case.case ≡ c.args.count = omega (arith, c.loop-case-test.false, c.loop-case.auto.case-end) in
    let all : c.loop-case.draft ≡ with_children c.args.of c.args.node c.args.count c.args.draft.now
    = c.loop-case.invariant.pushed ∙ ap (λ (n : ℕ). with_children c.args.of c.args.node n c.args.draft.now) count in record {
      rooted = on_success c.close_one.result c.close_one.ensures (λ same. c.loop-case.invariant.rooted);
      split = on_success c.close_one.result c.close_one.ensures (λ same. same ∙ ap closes_one all);
    }
