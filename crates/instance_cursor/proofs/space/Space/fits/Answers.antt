use Rattle.std.proofs.Common.{◌≡◌, Some, None, slice_get, length, ap, subst, ◌∙◌}
use Rattle.std.proofs.lemmas.Option.{slice_get_read, slice_get_past}
use Rattle.instance_cursor.specs.Fitting.{are_at}
use Rattle.instance_cursor.proofs.Nexts.{fits_fact, fits_element}
use Rattle.instance_cursor.proofs.space.Space.fits.Goals as goal

pub returns-in-Some : goal.returns-in-Some
returns-in-Some c =
    let found = c.in-Some.ensures.lookup in
    let here = slice_get_read c.self.inside.premises.now (length c.self.inside.premises.now) c.args.depth c.in-Some.atom.now (λ _. length c.self.inside.premises.now) found.3.0 found.1 in
    c.are_at.ensures
    ∙ (λ i. are_at c.args.self.now c.args.picks.now (c.as_slice.ensures i) (c.args_at.ensures i))
    ∙ fits_fact c.args.self.now c.args.depth c.in-Some.atom.now c.args.picks.now c.args.last
    (subst (λ xs. slice_get xs c.args.depth ≡ Some c.in-Some.atom.now) (ap (λ s. s.premises) c.self.view_is) here) c.requires

pub returns-in-None : goal.returns-in-None
returns-in-None c =
    let here = slice_get_past c.self.inside.premises.now c.args.depth c.in-None.ensures.lookup.3 in
    fits_element c.args.self.now c.args.depth c.args.picks.now c.args.last
    (subst (λ xs. slice_get xs c.args.depth ≡ None) (ap (λ s. s.premises) c.self.view_is) here) c.requires
