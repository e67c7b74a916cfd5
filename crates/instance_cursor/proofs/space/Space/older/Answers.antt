use Rattle.std.proofs.Common.{◌≡◌, Some, None, slice_get, ap, subst, ◌∙◌}
use Rattle.std.proofs.lemmas.Option.{slice_get_past}
use Rattle.fact_store.specs.Facts.{older_of}
use Rattle.instance_cursor.proofs.Lists.{item_below}
use Rattle.instance_cursor.proofs.Nexts.{older_fact, older_element}
use Rattle.instance_cursor.proofs.space.Space.older.Goals as goal

pub returns-then-depth-self : goal.returns-then-depth-self
returns-then-depth-self c =
    let atom = item_below c.self.inside.premises.now c.args.depth c.if-depth-self.true in
    older_fact c.args.self.now c.args.depth atom.0 c.args.pick c.older.result
    (subst (λ xs. slice_get xs c.args.depth ≡ Some atom.0) (ap (λ s. s.premises) c.self.view_is) atom.1) c.requires
    (c.older.ensures ∙ ap (λ s. older_of c.args.pick s.facts) c.self.view_is)

pub returns-else-depth-self : goal.returns-else-depth-self
returns-else-depth-self c =
    let here = slice_get_past c.self.inside.premises.now c.args.depth c.if-depth-self.false in
    older_element c.args.self.now c.args.depth c.args.pick c.checked_sub.result
    (subst (λ xs. slice_get xs c.args.depth ≡ None) (ap (λ s. s.premises) c.self.view_is) here) c.requires c.checked_sub.ensures
