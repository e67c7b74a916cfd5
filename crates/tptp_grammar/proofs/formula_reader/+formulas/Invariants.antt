use Rattle.std.proofs.Common.{◌≡◌, [], ◌∷◌, ◌+◌, ◌*◌, ◌-◌, length}
use Rattle.tptp_grammar.specs.Reading.{unit_at}
use Rattle.tptp_lexer.specs.Reading.{with_front, more_from}
use Rattle.tptp_grammar.proofs.formula_reader.+formulas.Given as goal

abbrev pub decreases-below : goal.decreases-below
decreases-below l = 4 * l.depth

abbrev pub decreases-inside : goal.decreases-inside
decreases-inside l = 4 * l.depth

abbrev pub decreases-unit : goal.decreases-unit
decreases-unit l = 4 * l.depth + 1

abbrev pub decreases-more_units : goal.decreases-more_units
decreases-more_units l = 4 * l.depth + 2

abbrev pub decreases-formula : goal.decreases-formula
decreases-formula l = 4 * l.depth + 3

-- the units so far are in front of those that are left
abbrev pub invariant-more_units-loop : goal.invariant-more_units-loop
invariant-more_units-loop l = with_front l.units (more_from (unit_at l.depth) l.sign (l.count - l.counter) l.rest)
    ≡ with_front (l.fn.first ∷ []) (more_from (unit_at l.depth) l.sign (length l.fn.cursor) l.fn.cursor)
