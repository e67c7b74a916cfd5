use Rattle.std.proofs.Common.{◌-◌, length}
use Rattle.text_core.specs.declared.limits.TheConstants.{MOST_LEVELS}
use Rattle.tptp_grammar.proofs.ItemLoop.{StillReads}
use Rattle.tptp_grammar.proofs.item_reader.read_text.Given as goal

abbrev pub invariant-loop-rest : goal.invariant-loop-rest
invariant-loop-rest l = StillReads MOST_LEVELS l.fn.tokens.tokens l.items l.rest

abbrev pub decreases-loop-rest : goal.decreases-loop-rest
decreases-loop-rest l = length l.fn.tokens.tokens - length l.items
