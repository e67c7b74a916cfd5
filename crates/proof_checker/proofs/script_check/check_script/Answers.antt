use Rattle.proof_checker.proofs.Started.{exact_check}
use Rattle.proof_checker.proofs.script_check.check_script.Goals as goal

pub returns : goal.returns
returns c = exact_check c.args.task.now c.citations_differ.ensures c.args.script.now c.check_closed.result c.check_closed.ensures.ok c.check_closed.ensures.err
