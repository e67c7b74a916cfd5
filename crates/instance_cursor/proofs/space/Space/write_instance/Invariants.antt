use Rattle.std.proofs.Common.{◌≡◌, take, length}
use Rattle.instance_cursor.specs.Fitting.{instance_at}
use Rattle.instance_cursor.proofs.space.Space.write_instance.Given as goal

abbrev pub invariant-loop-variable : goal.invariant-loop-variable
invariant-loop-variable l = record {
  written : take l.variable l.args ≡ take l.variable (instance_at l.self l.picks);
  size : length l.args ≡ length l.self.origins;
}
