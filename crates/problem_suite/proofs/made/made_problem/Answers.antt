use Rattle.std.proofs.Common.{◌≡◌, []}
use Rattle.problem_suite.specs.MadeTexts.{made_problem_text}
use Rattle.problem_suite.proofs.Appended.{four_appended}
use Rattle.problem_suite.proofs.Lengths.{problem_fits}
use Rattle.problem_suite.proofs.made.made_problem.Goals as goal

pub returns-clause-fits : goal.returns-clause-fits
returns-clause-fits c =
    let same : c.extend_from_slice.new.self ≡ made_problem_text c.args.implications =
    four_appended [] c.in_ok-text.text c.put_implications.new.out c.put_numbered.new.out c.extend_from_slice.new.self _ _ _ _
    c.in_ok-text.ensures c.in_ok-put_implications.ensures c.in_ok-put_numbered.ensures c.in_ok-extend_from_slice.ensures.ok
    in problem_fits c.args.implications c.extend_from_slice.new.self c.requires.most same
