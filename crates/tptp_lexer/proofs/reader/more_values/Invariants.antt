use Rattle.std.proofs.Common.{◌≡◌, [], ◌∷◌, ◌-◌, length}
use Rattle.tptp_lexer.specs.declared.kind.Kind.TheVariants as kind
use Rattle.tptp_lexer.specs.Reading.{with_front, more_from}
use Rattle.tptp_lexer.proofs.reader.more_values.Given as goal

-- the values so far are in front of those that are left
abbrev pub invariant-loop : goal.invariant-loop
invariant-loop g l = with_front l.values (more_from (g.R.Reads.from l.reader) kind.Comma (l.count - l.counter) l.rest)
    ≡ with_front (l.fn.first ∷ []) (more_from (g.R.Reads.from l.fn.reader) kind.Comma (length l.fn.cursor) l.fn.cursor)
