use Rattle.std.proofs.Common.{[], reverse, length}
use Rattle.std.specs.Prelude.{IsTrue}
use Rattle.std.specs.List.{list_all}
use Rattle.token_grammar.specs.Plan.{is_nullable}
use Rattle.token_grammar.specs.Acting.{Continues}
use Rattle.token_grammar.proofs.machine.pass_rest.Given as goal

abbrev pub invariant-loop-part : goal.invariant-loop-part
invariant-loop-part g l =
    IsTrue (list_all (is_nullable g.P.Part.grammar) l.stack.items) ×
    ((tokens : g.row.S.Denot) → Continues g.B.Builder.grammar (g.B.Builder.takes tokens) g.B.Builder.passes (reverse l.fn.stack.items)
    (g.B.Builder.built l.fn.builder) [] (reverse l.stack.items) (g.B.Builder.built l.builder))

abbrev pub decreases-loop-part : goal.decreases-loop-part
decreases-loop-part g l = length l.stack.items
