use Rattle.proof_checker.proofs.Started.{exact_open}
use Rattle.proof_checker.proofs.script_check.check_open.Goals as goal

pub returns : goal.returns
returns c = exact_open c.args.task.now c.citations_differ.ensures c.args.script.now c.check_nodes.result c.check_nodes.ensures.ok c.check_nodes.ensures.err
