use Rattle.std.proofs.lemmas.Result.{on_ok_weaker}
use Rattle.problem_suite.proofs.Appended.{four_appended}
use Rattle.problem_suite.proofs.made.put_implication.Goals as goal

pub returns : goal.returns
returns c = on_ok_weaker c.extend_from_slice.result (four_appended c.args.out.now c.put_numbered.new.out c.put_numbered-2.new.out c.put_numbered-3.new.out c.extend_from_slice.new.self _ _ _ _
    c.in_ok-put_numbered.ensures c.in_ok-put_numbered-2.ensures c.in_ok-put_numbered-3.ensures) c.extend_from_slice.ensures.ok
