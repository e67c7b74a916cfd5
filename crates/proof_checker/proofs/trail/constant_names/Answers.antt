use Rattle.proof_checker.proofs.Started.{distinct_next}
use Rattle.proof_checker.proofs.trail.constant_names.Goals as goal

pub loop-constant-preserved : goal.loop-constant-preserved
loop-constant-preserved c = distinct_next c.args.tables.now.constants c.loop-constant.names.keys c.insert_full.new.self.keys c.loop-constant.constant
    c.constant_name.result.now c.constants-constant-end.ensures.distinct c.constant_name.ensures c.loop-constant.invariant
    (rw c.in_ok-name.ensures at c.in_ok-insert_full.ensures.keys)
