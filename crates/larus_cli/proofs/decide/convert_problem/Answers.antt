use Rattle.std.proofs.Common.{◌≡◌, Err, rules}
use Rattle.larus_cli.specs.Words.{to_print}
use Rattle.larus_cli.specs.Done.{converted}
use Rattle.larus_cli.specs.Answers.{done}
use Rattle.larus_cli.proofs.decide.convert_problem.Goals as goal

pub returns-in_err-problem-clause-decides : goal.returns-in_err-problem-clause-decides
returns-in_err-problem-clause-decides g c =
    let same : c.from_residual.result ≡ Err c.in_err-problem.field-0.0 = search rules in
    rw same (c.in_err-problem.ensures.halts c.args.words.now (to_print, c.convert_name.ensures))

pub returns-clause-decides : goal.returns-clause-decides
returns-clause-decides g c =
    done _ (converted c.convert_name.result.now c.in_ok-text.text c.in_ok-problem.problem c.convert_name.ensures c.in_ok-problem.ensures.reads
    c.in_ok-text.ensures.text c.in_ok-text.ensures.reads_back)
