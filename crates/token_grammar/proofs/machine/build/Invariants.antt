use Rattle.std.proofs.Common.{[], ◌∷◌, reverse, take}
use Rattle.token_grammar.specs.Acting.{Continues}
use Rattle.token_grammar.proofs.Reading.{Reading}
use Rattle.token_grammar.proofs.machine.build.Given as goal

abbrev pub invariant-loop-number : goal.invariant-loop-number
invariant-loop-number g l =
    Reading g.P.Part.grammar g.P.Part.plan g.P.Part.watcher l.fn.start (g.P.Part.seen l.fn.watch)
    (take l.number (g.S.Source.marks l.fn.tokens)) (reverse l.stack.items) (g.P.Part.seen l.watch) l.last ×
    Continues g.B.Builder.grammar (g.B.Builder.takes l.fn.tokens) g.B.Builder.passes (l.fn.start ∷ [])
    (g.B.Builder.built l.fn.builder) (take l.number (g.S.Source.marks l.fn.tokens)) (reverse l.stack.items)
    (g.B.Builder.built l.builder)
