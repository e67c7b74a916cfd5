use Rattle.std.proofs.Common.{◌≡◌, true, take}
use Rattle.coherent_form.specs.Each.{each_is_plain}
use Rattle.coherent_form.proofs.rule.+plain.Given as goal

-- the first members are plain
abbrev pub invariant-are_plain-loop-member : goal.invariant-are_plain-loop-member
invariant-are_plain-loop-member l = each_is_plain (take l.member-index l.members) ≡ true
