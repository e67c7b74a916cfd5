use Rattle.std.proofs.Common.{◌∷◌}
use Rattle.coherent_form.proofs.Noting.{axioms_noted_are}
use Rattle.coherent_form.proofs.Steps.{if_ok_as}
use Rattle.coherent_form.proofs.axioms.axioms_of.Goals as goal

pub returns : goal.returns
returns c = if_ok_as c.noted_axioms.result _ _
    (axioms_noted_are c.args.tables.now c.in_ok-seen.seen (c.args.goal.now ∷ c.args.forms.now) c.in_ok-seen.ensures.equality c.in_ok-seen.ensures.negated)
    c.noted_axioms.ensures
