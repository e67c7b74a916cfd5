use Rattle.std.proofs.Common.{◌≤◌, [], ◌∷◌, length, take, reverse, ◌∙◌, sym, arith, append-nil}
use Rattle.token_grammar.proofs.Reading.{reading_unexpected, reading_stopped, reading_taken, reading_accepted, reading_ended}
use Rattle.token_grammar.proofs.Acting.{continues_taken}
use Rattle.token_grammar.proofs.Built.{built}
use Rattle.token_grammar.proofs.machine.build.Goals as goal
use Rattle.text_core.proofs.Laws.{take_next, take_all}

pub returns-in-None-clause-refused : goal.returns-in-None-clause-refused
returns-in-None-clause-refused g c =
    reading_unexpected g.P.Part.grammar g.P.Part.plan g.P.Part.watcher g.met.P.Part.predictive c.args.start
    (g.P.Part.seen c.args.watch.now) (g.S.Source.marks c.args.tokens.now) c.loop-number.number
    (reverse c.loop-number.stack.items) (reverse c.take_token.new.stack.items) (g.P.Part.seen c.loop-number.watch)
    c.loop-number.last c.mark-token.result c.mark-token.ensures c.loop-number.invariant.0
    (rw c.in-None.is at c.in_ok-take_token.ensures.moves)

pub returns-in-Err-clause-refused : goal.returns-in-Err-clause-refused
returns-in-Err-clause-refused g c =
    reading_stopped g.P.Part.grammar g.P.Part.plan g.P.Part.watcher g.met.P.Part.predictive c.args.start
    (g.P.Part.seen c.args.watch.now) (g.S.Source.marks c.args.tokens.now) c.loop-number.number
    (reverse c.loop-number.stack.items) (reverse c.take_token.new.stack.items) (g.P.Part.seen c.loop-number.watch)
    c.loop-number.last c.mark-token.result c.in-Some.part c.in-Err.fault c.mark-token.ensures c.loop-number.invariant.0
    (rw c.in-Some.is at c.in_ok-take_token.ensures.moves) (rw c.in-Err.is at c.in_ok-fault-in-Some.ensures)

pub loop-number-preserved : goal.loop-number-preserved
loop-number-preserved g c =
    let next = take_next (g.S.Source.marks c.args.tokens.now) c.loop-number.number c.mark-token.result c.mark-token.ensures in (
      rw next (reading_taken g.P.Part.grammar g.P.Part.plan g.P.Part.watcher g.met.P.Part.predictive c.args.start
          (g.P.Part.seen c.args.watch.now) (take c.loop-number.number (g.S.Source.marks c.args.tokens.now))
          (reverse c.loop-number.stack.items) (reverse c.take_token.new.stack.items) (g.P.Part.seen c.loop-number.watch)
          (g.P.Part.seen c.note.new.watch) c.loop-number.last c.mark-token.result c.in-Some.part c.loop-number.invariant.0
          (rw c.in-Some.is at c.in_ok-take_token.ensures.moves) (rw c.in_default.is at c.in_ok-fault-in-Some.ensures)),
      rw next (rw c.in_ok-take-in-Some.ensures (continues_taken g.B.Builder.grammar (g.B.Builder.takes c.args.tokens.now)
          g.B.Builder.passes (c.args.start ∷ []) (g.B.Builder.built c.args.builder.now)
          (take c.loop-number.number (g.S.Source.marks c.args.tokens.now)) c.mark-token.result (reverse c.loop-number.stack.items)
          (reverse c.take_token.new.stack.items) c.in-Some.part (g.B.Builder.built c.loop-number.builder)
          (g.B.Builder.built c.take_token.new.builder)
          (rw g.met.B.Builder.reads at (rw c.in-Some.is at c.in_ok-take_token.ensures.moves).1) c.loop-number.invariant.1
          (rw c.in-Some.is at c.in_ok-take_token.ensures.acts c.args.tokens.now))),
    )

pub returns-then-leaves_nothing-clause-text : goal.returns-then-leaves_nothing-clause-text
returns-then-leaves_nothing-clause-text g c =
    reading_accepted g.P.Part.grammar g.P.Part.plan g.P.Part.watcher g.met.P.Part.predictive c.args.start
    (g.P.Part.seen c.args.watch.now) (g.S.Source.marks c.args.tokens.now) c.loop-number.number c.loop-number.stack.items
    (g.P.Part.seen c.loop-number.watch) c.loop-number.last
    (let end = c.loop-number-test.false in let count = c.count-number-end.ensures in omega arith)
    (let answer = c.leaves_nothing.ensures in let held = c.if-leaves_nothing.true in let items = c.deref.ensures.value in rw (← items) (sym answer ∙ held))
    c.loop-number.invariant.0

pub returns-clause-refused : goal.returns-clause-refused
returns-clause-refused g c =
    reading_ended g.P.Part.grammar g.P.Part.plan g.P.Part.watcher g.met.P.Part.predictive c.args.start
    (g.P.Part.seen c.args.watch.now) (g.S.Source.marks c.args.tokens.now) c.loop-number.number c.loop-number.stack.items
    (g.P.Part.seen c.loop-number.watch) c.loop-number.last
    (let end = c.loop-number-test.false in let count = c.count-number-end.ensures in omega arith)
    (let answer = c.leaves_nothing.ensures in let held = c.if-leaves_nothing.false in let items = c.deref.ensures.value in rw (← items) (sym answer ∙ held))
    c.loop-number.invariant.0

pub returns-then-leaves_nothing-clause-value : goal.returns-then-leaves_nothing-clause-value
returns-then-leaves_nothing-clause-value g c =
    let end : length (g.S.Source.marks c.args.tokens.now) ≤ c.loop-number.number =
    (let past = c.loop-number-test.false in let count = c.count-number-end.ensures in omega arith) in
    let acted = c.loop-number.invariant.1 [] (g.B.Builder.built c.pass_rest.new.builder) (c.in_ok-pass_rest.ensures c.args.tokens.now) in
    built g.B.Builder.grammar g.B.Builder.Value (g.B.Builder.making c.args.tokens.now) (g.B.Builder.takes c.args.tokens.now)
    g.B.Builder.passes (g.B.Builder.effect c.args.tokens.now) (g.met.B.Builder.building c.args.tokens.now) c.args.start
    (g.S.Source.marks c.args.tokens.now) (g.B.Builder.built c.args.builder.now) (g.B.Builder.built c.pass_rest.new.builder)
    (rw (append-nil, take_all (g.S.Source.marks c.args.tokens.now) c.loop-number.number end) at acted)
