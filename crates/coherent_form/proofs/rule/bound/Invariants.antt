use Rattle.std.proofs.Common.{◌≡◌, ◌++◌, map, length}
use Rattle.std.specs.Vec.Iter.{into_iter_items, into_iter_len}
use Rattle.coherent_form.specs.Reading.{form_bound}
use Rattle.coherent_form.proofs.rule.bound.Given as goal

-- the forms so far have the variables in front
abbrev pub invariant-loop-form : goal.invariant-loop-form
invariant-loop-form l = record {
  rest : l.yielded ++ into_iter_items l.form-iterator ≡ l.fn.forms;
  len : into_iter_len l.form-iterator ≡ length (into_iter_items l.form-iterator);
  so_far : l.all ≡ map (form_bound l.count) l.yielded;
}
