use Rattle.std.proofs.Common.{take}
use Rattle.kept_context.specs.Noted.{HasAlso}
use Rattle.kept_context.proofs.fact.add_facts.Given as goal

-- the first atoms are added
abbrev pub invariant-loop-atom : goal.invariant-loop-atom
invariant-loop-atom l = HasAlso l.elements (take l.atom-index l.atoms) l.fn.store l.store
