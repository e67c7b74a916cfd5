use Rattle.tptp_grammar.proofs.Closing.{Closing}
use Rattle.tptp_grammar.proofs.scopes.Scopes.close.Given as goal

abbrev pub invariant-loop-number : goal.invariant-loop-number
invariant-loop-number l =
    Closing l.level l.initial.self-inside.bindings l.self-inside.bindings l.number l.self-inside.in_order
