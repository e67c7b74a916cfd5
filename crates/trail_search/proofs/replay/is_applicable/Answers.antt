use Rattle.std.proofs.Common.{List, slice_get, sym, ap, ◌∙◌}
use Rattle.std.specs.Option.{option_copied}
use Rattle.std.proofs.lemmas.Bool.{OnTrue_from}
use Rattle.logic_core.specs.declared.form.Form.{Form}
use Rattle.trail_search.proofs.replay.is_applicable.Goals as goal

pub returns-in-Some : goal.returns-in-Some
returns-in-Some c = OnTrue_from c.is_instance.result _ (λ passes context r. (
  c.in-Some.form.now,
  ap (λ (fs : List Form). slice_get fs c.args.form) (sym c.forms.ensures.value) ∙ sym c.get.ensures.value ∙ ap option_copied c.in-Some.is,
  (c.is_instance.ensures c.args.scene.now.task.now c.args.scene.now.lent.now context r).0 passes,
))
