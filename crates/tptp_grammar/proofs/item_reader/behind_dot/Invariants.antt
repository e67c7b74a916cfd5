use Rattle.std.proofs.Common.{◌≡◌, length}
use Rattle.tptp_grammar.specs.Reading.{behind_dot}
use Rattle.tptp_grammar.proofs.item_reader.behind_dot.Given as goal

-- the first dot is still to come
abbrev pub invariant-loop-token : goal.invariant-loop-token
invariant-loop-token l = behind_dot l.rest ≡ behind_dot l.fn.cursor

abbrev pub decreases-loop-token : goal.decreases-loop-token
decreases-loop-token l = length l.rest
