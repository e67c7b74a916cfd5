use Rattle.std.proofs.Common.{[], reverse}
use Rattle.token_grammar.specs.Plan.{weight}
use Rattle.token_grammar.specs.Step.{Expanded}
use Rattle.token_grammar.specs.Acting.{Continues}
use Rattle.token_grammar.proofs.machine.take_token.Given as goal

abbrev pub invariant-loop-part : goal.invariant-loop-part
invariant-loop-part g l =
    Expanded g.P.Part.grammar g.P.Part.plan l.token (reverse l.fn.stack.items) (reverse l.stack.items) ×
    ((tokens : g.row.S.Denot) → Continues g.B.Builder.grammar (g.B.Builder.takes tokens) g.B.Builder.passes (reverse l.fn.stack.items)
    (g.B.Builder.built l.fn.builder) [] (reverse l.stack.items) (g.B.Builder.built l.builder))

abbrev pub decreases-loop-part : goal.decreases-loop-part
decreases-loop-part g l = weight g.P.Part.grammar g.P.Part.plan (reverse l.stack.items)
