use Rattle.std.proofs.Common.{◌≡◌, ◌+◌, ◌≤◌, length, vec_capacity}
use Rattle.instance_cursor.specs.Origins.{free_variables, origins_of}
use Rattle.instance_cursor.proofs.origin.write_origins.Given as goal

abbrev pub invariant-loop-variable : goal.invariant-loop-variable
invariant-loop-variable l = record {
  read : l.into.items ≡ origins_of l.premises l.variable;
  count : length l.into.items ≡ l.variable;
  depths : l.depths ≡ length l.premises + length (free_variables l.premises l.variable);
  room : l.variables ≤ vec_capacity l.into;
  capacity : vec_capacity l.fn.into ≤ vec_capacity l.into;
}
