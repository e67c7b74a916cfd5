use Rattle.std.proofs.Common.{◌++◌, ◌+◌}
use Rattle.std.specs.List.{flat_map, range_with_len}
use Rattle.problem_suite.specs.MadeTexts.{application_text}
use Rattle.problem_suite.proofs.Appended.{next_moves}
use Rattle.problem_suite.proofs.made.put_applications.Goals as goal

pub loop-number-preserved : goal.loop-number-preserved
loop-number-preserved c = next_moves application_text c.loop-number.out c.put_application.new.out (c.args.out.now ++ flat_map application_text (range_with_len 1 c.args.count)) c.loop-number.number (c.args.count + 1)
    c.loop-number-test.true c.in_ok-put_application.ensures c.loop-number.invariant
