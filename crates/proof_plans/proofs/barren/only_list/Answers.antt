use Rattle.std.proofs.Common.{◌∙◌, List, ap, sym, length, slice_get}
use Rattle.logic_core.specs.declared.form.Atom.{Atom}
use Rattle.proof_plans.proofs.Repeats.{only_read}
use Rattle.proof_plans.proofs.barren.only_list.Goals as goal

pub returns : goal.returns
returns c = only_read c.place_at.result c.args.form.now.disjuncts (c.place_at.ensures ∙ ap (λ (xs : List (List Atom)). slice_get xs 0) c.as_slice-2.ensures) (ap length (sym c.as_slice.ensures) ∙ c.if-as_slice-ne1.false)
