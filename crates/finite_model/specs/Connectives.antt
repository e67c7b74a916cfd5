-- What the connectives make of two truth values.
use Rattle.std.specs.Prelude.{Bool, true, false, not, ◌&&◌, ◌||◌, Option, Some, None, if◌then◌else◌}
use Rattle.logic_core.specs.declared.formula.Op.{Op}
use Rattle.logic_core.specs.declared.formula.Op.TheVariants.{Implies, Implied, Iff, Xor, Nor, Nand}

-- whether two truth values are the same
abbrev pub are_same : Bool → Bool → Bool
are_same true b = b
are_same false b = not b

-- what a connective makes of the truth of its sides
abbrev pub connected : Op → Bool → Bool → Bool
connected Implies a b = not a || b
connected Implied a b = a || not b
connected Iff a b = are_same a b
connected Xor a b = not (are_same a b)
connected Nor a b = not (a || b)
connected Nand a b = not (a && b)

-- what it makes of the left side alone, where that decides
abbrev pub decided : Op → Bool → Option Bool
decided Implies a = if a then None else Some true
decided Implied a = if a then Some true else None
decided Nor a = if a then Some false else None
decided Nand a = if a then None else Some true
decided _ a = None
