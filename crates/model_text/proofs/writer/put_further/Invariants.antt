use Rattle.std.proofs.Common.{◌≡◌, ◌++◌, drop, flat_map}
use Rattle.model_text.specs.Canonical.{further_text}
use Rattle.model_text.proofs.writer.put_further.Given as goal

-- what is appended, and what the other arguments add
abbrev pub invariant-loop-argument : goal.invariant-loop-argument
invariant-loop-argument l =
    l.out ++ flat_map further_text (drop l.argument-index l.arguments) ≡ l.fn.out ++ flat_map further_text l.arguments
