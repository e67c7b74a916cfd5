use Rattle.std.proofs.Common.{◌≡◌, ◌≤◌, ◌-◌, Some, None, slice_get, length, ap, subst, ◌∙◌}
use Rattle.std.specs.Option.{SomeIff}
use Rattle.std.proofs.lemmas.Option.{slice_get_read, slice_get_past}
use Rattle.fact_store.specs.Facts.{newest_of}
use Rattle.instance_cursor.proofs.Nexts.{newest_fact, newest_element}
use Rattle.instance_cursor.proofs.space.Space.newest.Goals as goal

pub returns-in-Some : goal.returns-in-Some
returns-in-Some c =
    let found = c.in-Some.ensures.lookup in
    let here = slice_get_read c.self.inside.premises.now (length c.self.inside.premises.now) c.args.depth c.in-Some.atom.now (λ _. length c.self.inside.premises.now) found.3.0 found.1 in
    newest_fact c.args.self.now c.args.depth c.in-Some.atom.now c.newest.result
    (subst (λ xs. slice_get xs c.args.depth ≡ Some c.in-Some.atom.now) (ap (λ s. s.premises) c.self.view_is) here)
    (c.newest.ensures ∙ (λ i. newest_of (c.signed_number.ensures i) (c.self.view_is i).facts))

pub returns-in-None : goal.returns-in-None
returns-in-None c =
    let here = slice_get_past c.self.inside.premises.now c.args.depth c.in-None.ensures.lookup.3 in
    newest_element c.args.self.now c.args.depth c.checked_sub.result
    (subst (λ xs. slice_get xs c.args.depth ≡ None) (ap (λ s. s.premises) c.self.view_is) here)
    (subst (λ n. SomeIff c.checked_sub.result (1 ≤ n) (n - 1)) (ap (λ s. s.elements) c.self.view_is) c.checked_sub.ensures)
