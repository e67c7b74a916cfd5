use Rattle.larus_cli.proofs.Saying.{formula_told}
use Rattle.larus_cli.proofs.reading.build_task.Goals as goal

pub returns-in_default-clause-halts : goal.returns-in_default-clause-halts
returns-in_default-clause-halts c words files later name names reads =
    formula_told words files later name c.args.problem.now c.in-Err.refusal names reads c.in_default.not-Memory c.in-Err.ensures.err
