use Rattle.std.proofs.Common.{rules, ◌≡◌, [], refl, reverse}
use Rattle.token_grammar.specs.Acting.Acted.{ended}
use Rattle.token_grammar.proofs.Acting.{continues_empty, nullable_top}
use Rattle.token_grammar.proofs.machine.pass_rest.Goals as goal

pub loop-part-preserved : goal.loop-part-preserved
loop-part-preserved g c =
    let top = nullable_top g.P.Part.grammar g.B.Builder.grammar c.in-Some.part c.loop-part.stack.items c.pop.new.self.items
    g.met.B.Builder.reads c.in-Some.ensures.items c.loop-part.invariant.0 in (
      top.0,
      λ tokens.
          let passed = continues_empty g.B.Builder.grammar (g.B.Builder.takes tokens) g.B.Builder.passes (reverse c.args.stack.now.items)
          (g.B.Builder.built c.args.builder.now) [] c.in-Some.part c.loop-part.stack.items c.pop.new.self.items
          (g.B.Builder.built c.loop-part.builder) c.in-Some.ensures.items top.1 (c.loop-part.invariant.1 tokens) in
          rw c.in_ok-pass.ensures passed,
    )

pub returns : goal.returns
returns g c = λ tokens.
    let empty : c.loop-part.stack.items ≡ [] = (let none = c.in_default.ensures.cases.0 in search (rules, none)) in
    c.loop-part.invariant.1 tokens [] (g.B.Builder.built c.loop-part.builder)
    (rw empty (ended refl))
