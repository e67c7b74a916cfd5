use Rattle.std.proofs.Common.{◌≡◌, ◌++◌, map, take}
use Rattle.coherent_form.specs.Reading.{form_guarded}
use Rattle.coherent_form.proofs.rule.push_guarded.Given as goal

-- the first forms are appended behind the alternative
abbrev pub invariant-loop-form : goal.invariant-loop-form
invariant-loop-form l = l.all ≡ l.fn.all ++ map (form_guarded l.scope l.guard) (take l.form-index l.forms)
