use Rattle.std.proofs.Common.{◌∙◌, sym, arith}
use Rattle.std.proofs.lemmas.Bool.{false≢true}
use Rattle.proof_checker.proofs.Named.{stopped, added}
use Rattle.proof_checker.proofs.trail.add_new.Goals as goal

pub returns-then-contains-clause-new : goal.returns-then-contains-clause-new
returns-then-contains-clause-new c = (
  (λ e. absurd (false≢true e)),
  (λ new. absurd (stopped c.args.names.now.keys c.args.fresh.now c.loop-name.names.keys c.loop-name.name-index c.name-item.result
      c.loop-name-test.true c.name-item.is c.loop-name.invariant.added (sym c.contains.ensures ∙ c.if-contains.true) new)),
)

pub loop-name-preserved : goal.loop-name-preserved
loop-name-preserved c =
    let more = added c.args.names.now.keys c.args.fresh.now c.loop-name.names.keys c.insert_full.new.self.keys c.loop-name.name-index c.name-item.result
    c.loop-name-test.true c.name-item.is c.loop-name.invariant.added c.loop-name.invariant.new (sym c.contains.ensures ∙ c.if-contains.false)
    (rw c.in_ok-copy.ensures at c.in_ok-insert_full.ensures.keys) in
    let long = more.2 in
    record {
      added = more.0;
      new = more.1;
      few = omega (long, c.if-len.false, c.len.ensures.len, arith);
    }
