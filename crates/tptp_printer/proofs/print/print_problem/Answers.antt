use Rattle.tptp_printer.proofs.Items.{problem_back}
use Rattle.tptp_printer.proofs.print.print_problem.Goals as goal

pub returns-clause-reads_back : goal.returns-clause-reads_back
returns-clause-reads_back c = problem_back c.args.problem.now c.as_slice-fof-items.result.now c.loop-fof.fof-index c.loop-fof.bytes c.loop-fof-test.false c.loop-fof.invariant.text c.as_slice-fof-items.ensures.allowed c.loop-fof.invariant.named
