use Rattle.std.proofs.Common.{◌≡◌, Some, slice_get, ap, sym, ◌∙◌, arith}
use Rattle.std.proofs.lemmas.Option.{slice_get-get_or}
use Rattle.fact_store.proofs.Stored.{AreStored-cut, view-cut}
use Rattle.fact_store.proofs.store.Store.undo.Goals as goal

pub invariant_of-self : goal.invariant_of-self
invariant_of-self c =
    let inside = c.self.inside in
    let here : slice_get inside.entries.items c.args.undo_point ≡ Some c.index.result.now =
    slice_get-get_or inside.entries.items c.args.undo_point c.index.result.now (omega arith) ∙ ap Some (sym c.index.ensures) in
    rw (c.cut.ensures, c.cut-2.ensures, c.truncate.ensures.items, c.truncate-2.ensures.items, c.truncate.ensures.capacity, c.truncate-2.ensures.capacity)
    (AreStored-cut _ _ _ _ _ _ _ _ c.args.undo_point c.index.result.now c.self.invariant here)

pub returns : goal.returns
returns c =
    let inside = c.self.inside in
    let here : slice_get inside.entries.items c.args.undo_point ≡ Some c.index.result.now =
    slice_get-get_or inside.entries.items c.args.undo_point c.index.result.now (omega arith) ∙ ap Some (sym c.index.ensures) in
    rw (c.cut.ensures, c.truncate.ensures.items, c.truncate-2.ensures.items, ← c.self.view_is)
    (view-cut _ _ _ _ _ _ _ _ c.args.undo_point c.index.result.now c.self.invariant here inside.by_symbol.width)
