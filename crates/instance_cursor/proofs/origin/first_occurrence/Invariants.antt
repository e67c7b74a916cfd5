use Rattle.std.proofs.Common.{◌≡◌, drop}
use Rattle.instance_cursor.specs.Origins.{first_occurrence}
use Rattle.instance_cursor.proofs.origin.first_occurrence.Given as goal

abbrev pub invariant-loop-depth : goal.invariant-loop-depth
invariant-loop-depth l =
    first_occurrence l.variable 0 l.premises ≡ first_occurrence l.variable l.depth (drop l.depth l.premises)
