use Rattle.std.proofs.Common.{false, [], ◌∷◌, ◌++◌, ap, sym, ◌∙◌}
use Rattle.std.proofs.lemmas.Result.{on_ok_weaker}
use Rattle.coherent_form.specs.Each.{atoms_in}
use Rattle.coherent_form.specs.Reading.{atom_of, atoms_of}
use Rattle.coherent_form.proofs.Opened.{atoms_of-And, atoms_of-Not, atoms_in_more}
use Rattle.coherent_form.proofs.Steps.{appended_more}
use Rattle.coherent_form.proofs.atoms.+atoms.Goals as goal

pub push_each-loop-member-preserved : goal.push_each-loop-member-preserved
push_each-loop-member-preserved t c =
    appended_more (atoms_in c.args.tables.now c.args.scope.now) (atoms_of c.args.tables.now c.args.scope.now) (atoms_in_more c.args.tables.now c.args.scope.now)
    c.args.members.now c.loop-member.member-index c.member-item.result c.loop-member-test.true c.member-item.is
    c.args.atoms.now c.loop-member.atoms c.push_atoms.new.atoms c.loop-member.invariant c.in_ok-push_atoms.ensures

pub push_atoms-returns-in-And : goal.push_atoms-returns-in-And
push_atoms-returns-in-And t c = on_ok_weaker c.push_each.result
    (λ e. e ∙ ap (λ gs. c.args.atoms.now ++ atoms_in c.args.tables.now c.args.scope.now gs) c.as_slice.ensures
    ∙ ap (λ more. c.args.atoms.now ++ more) (sym (ap (atoms_of c.args.tables.now c.args.scope.now) c.in-And.is ∙ atoms_of-And c.args.tables.now c.args.scope.now c.in-And.members)))
    c.push_each.ensures

pub push_atoms-returns-in_ok-atom_of-in-Not : goal.push_atoms-returns-in_ok-atom_of-in-Not
push_atoms-returns-in_ok-atom_of-in-Not t c = on_ok_weaker c.push.result
    (λ e. e ∙ ap (λ a. c.args.atoms.now ++ a ∷ []) (c.in_ok-atom_of-in-Not.ensures ∙ ap (atom_of c.args.tables.now c.args.scope.now false) c.get.ensures)
    ∙ ap (λ more. c.args.atoms.now ++ more) (sym (ap (atoms_of c.args.tables.now c.args.scope.now) c.in-Not.is ∙ atoms_of-Not c.args.tables.now c.args.scope.now c.in-Not.body)))
    c.push.ensures.ok
