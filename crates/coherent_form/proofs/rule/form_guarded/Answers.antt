use Rattle.std.proofs.Common.{◌≡◌, ◌++◌, map, ap, ◌∙◌}
use Rattle.coherent_form.specs.Reading.{atom_moved}
use Rattle.coherent_form.proofs.Joining.{atoms_stay, guarded_form}
use Rattle.coherent_form.proofs.rule.form_guarded.Goals as goal

pub returns : goal.returns
returns c =
    let guard = c.args.guard.now in
    let form = c.args.form.now in
    let first : c.push_moved.new.atoms ≡ guard.atoms
    = c.in_ok-push_moved.ensures ∙ (λ j. c.new-premises.ensures j ++ map (atom_moved c.args.scope 0) (c.as_slice.ensures j)) ∙ atoms_stay c.args.scope guard.atoms in
    let second : c.push_moved-2.new.atoms ≡ guard.atoms ++ map (atom_moved c.args.scope guard.variables) form.premises
    = c.in_ok-push_moved-2.ensures ∙ (λ j. first j ++ map (atom_moved c.args.scope guard.variables) (c.as_slice-2.ensures j)) in
    guarded_form c.args.scope guard form c.in_ok-sum_of.field-0 c.premises-2.inside.items.items c.in_ok-disjuncts_moved.field-0
    c.in_ok-sum_of.ensures (c.premises-2.view_is ∙ second) (c.in_ok-disjuncts_moved.ensures ∙ ap (map (map (atom_moved c.args.scope guard.variables))) c.as_slice-3.ensures)
