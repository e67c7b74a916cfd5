use Rattle.std.proofs.Common.{rules, reverse}
use Rattle.token_grammar.specs.Step.Expanded.{here}
use Rattle.token_grammar.proofs.Acting.{continues_passed, continues_pushed}
use Rattle.token_grammar.proofs.Moving.{lighter, expanded_further}
use Rattle.token_grammar.proofs.machine.take_token.Goals as goal

pub loop-part-init : goal.loop-part-init
loop-part-init g c = (here, λ tokens ts after acted. acted)

pub loop-part-smaller : goal.loop-part-smaller
loop-part-smaller g c =
    lighter g.P.Part.grammar g.P.Part.plan c.in-Some.part c.args.token c.loop-part.stack.items c.pop.new.self.items
    c.step.new.stack.items c.in_ok-step.field-0 c.in-Some.ensures.items c.in_ok-step.ensures c.in-Expand.is
    g.met.P.Part.predictive

pub loop-part-smaller-in-Continue-branch-3 : goal.loop-part-smaller-in-Continue-branch-3
loop-part-smaller-in-Continue-branch-3 g c =
    lighter g.P.Part.grammar g.P.Part.plan c.in-Some.part c.args.token c.loop-part.stack.items c.pop.new.self.items
    c.step.new.stack.items c.in_ok-step.field-0 c.in-Some.ensures.items c.in_ok-step.ensures c.in-Expand.is
    g.met.P.Part.predictive

pub loop-part-preserved-in-Continue-branch-3 : goal.loop-part-preserved-in-Continue-branch-3
loop-part-preserved-in-Continue-branch-3 g c = (
  expanded_further g.P.Part.grammar g.P.Part.plan c.in-Some.part c.args.token c.loop-part.stack.items c.pop.new.self.items
      c.step.new.stack.items c.in_ok-step.field-0 c.in-Some.ensures.items c.in_ok-step.ensures c.in-Expand.is _ c.loop-part.invariant.0,
  λ tokens.
      let h = c.if-len-below.true in
      let e = c.len.ensures in
      let f = c.len-below.ensures in
      let passed = continues_passed g.P.Part.grammar g.B.Builder.grammar g.P.Part.plan (g.B.Builder.takes tokens) g.B.Builder.passes
      (reverse c.args.stack.now.items) (g.B.Builder.built c.args.builder.now) (g.B.Builder.built c.loop-part.builder) c.in-Some.part
      c.args.token c.loop-part.stack.items c.pop.new.self.items c.step.new.stack.items c.in_ok-step.field-0 g.met.B.Builder.reads
      c.in-Some.ensures.items c.in_ok-step.ensures c.in-Expand.is (search (rules, h, e, f)) (c.loop-part.invariant.1 tokens) in
      rw c.in_ok-pass-in-Expand.ensures passed,
)

pub loop-part-preserved : goal.loop-part-preserved
loop-part-preserved g c = (
  expanded_further g.P.Part.grammar g.P.Part.plan c.in-Some.part c.args.token c.loop-part.stack.items c.pop.new.self.items
      c.step.new.stack.items c.in_ok-step.field-0 c.in-Some.ensures.items c.in_ok-step.ensures c.in-Expand.is _ c.loop-part.invariant.0,
  λ tokens. continues_pushed g.P.Part.grammar g.B.Builder.grammar g.P.Part.plan (g.B.Builder.takes tokens) g.B.Builder.passes
      (reverse c.args.stack.now.items) (g.B.Builder.built c.args.builder.now) (g.B.Builder.built c.loop-part.builder) c.in-Some.part
      c.args.token c.loop-part.stack.items c.pop.new.self.items c.step.new.stack.items c.in_ok-step.field-0 g.met.B.Builder.reads
      c.in-Some.ensures.items c.in_ok-step.ensures c.in-Expand.is (let h = c.if-len-below.false in let e = c.len.ensures in let f = c.len-below.ensures in λ equal. h (search (rules, equal, e, f))) (c.loop-part.invariant.1 tokens),
)
