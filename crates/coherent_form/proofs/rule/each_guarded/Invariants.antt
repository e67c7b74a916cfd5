use Rattle.std.proofs.Common.{◌≡◌, take}
use Rattle.coherent_form.specs.Reading.{forms_guarded}
use Rattle.coherent_form.proofs.rule.each_guarded.Given as goal

-- the forms behind the first alternatives
abbrev pub invariant-loop-guard : goal.invariant-loop-guard
invariant-loop-guard l = l.all ≡ forms_guarded l.scope (take l.guard-index l.guards) l.forms
