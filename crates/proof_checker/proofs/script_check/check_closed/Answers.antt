use Rattle.std.proofs.Common.{Err, ap, sym, ◌∙◌, subst}
use Rattle.vernacular_tree.specs.Preorders.{IsTree}
use Rattle.proof_checker.proofs.Started.{proof_accepted, nodes_tree}
use Rattle.proof_checker.proofs.script_check.check_closed.Goals as goal

pub returns-in-Ok-clause-ok : goal.returns-in-Ok-clause-ok
returns-in-Ok-clause-ok c = proof_accepted c.args.task.now c.args.script.now c.in_ok-nodes.nodes c.in-Ok.proof c.in_ok-nodes.ensures.ok (c.in-Ok.ensures.ok ∙ c.in_ok-rules.ensures)

pub unreachable-requires : goal.unreachable-requires
unreachable-requires c = c.in-Err-NotATree.ensures.not_a_tree (ap Err c.in-Err-NotATree.field-0-is)
    (subst IsTree (sym c.in_ok-rules.ensures) (nodes_tree c.args.task.now c.args.script.now c.in_ok-nodes.nodes c.in_ok-nodes.ensures.ok c.in_ok-nodes.ensures.proper))
