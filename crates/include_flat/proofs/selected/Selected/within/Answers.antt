use Rattle.std.proofs.Common.{◌≡◌, ◌∷◌, [], length, ap, sym, ◌∙◌, append_assoc, arith}
use Rattle.std.specs.Vec.Iter.{into_iter_items}
use Rattle.include_flat.specs.Walks.{is_selected}
use Rattle.include_flat.specs.Progress.{selections_of}
use Rattle.include_flat.proofs.Selecting.{one_kept, one_left}
use Rattle.include_flat.proofs.selected.Selected.within.Goals as goal

pub loop-name-preserved-in_ok-insert : goal.loop-name-preserved-in_ok-insert
loop-name-preserved-in_ok-insert c =
    let at = c.loop-name in
    let name = c.in-Some.name in
    let steps : into_iter_items at.name-iterator ≡ name ∷ into_iter_items c.next.new.self = c.in-Some.ensures.steps.0 in
    record {
      rest = append_assoc at.yielded (name ∷ []) _ ∙ rw (← steps) at.invariant.rest;
      len = let was = at.invariant.len in let gone = c.in-Some.ensures.steps.1 in let short = ap length steps in omega arith;
      kept = rw c.in_ok-insert.ensures.keys (one_kept (is_selected (selections_of c.args.self.now)) at.names.keys at.yielded name at.invariant.kept (sym c.has.ensures ∙ c.if-has.true));
    }

pub loop-name-preserved : goal.loop-name-preserved
loop-name-preserved c =
    let at = c.loop-name in
    let name = c.in-Some.name in
    let steps : into_iter_items at.name-iterator ≡ name ∷ into_iter_items c.next.new.self = c.in-Some.ensures.steps.0 in
    record {
      rest = append_assoc at.yielded (name ∷ []) _ ∙ rw (← steps) at.invariant.rest;
      len = let was = at.invariant.len in let gone = c.in-Some.ensures.steps.1 in let short = ap length steps in omega arith;
      kept = one_left (is_selected (selections_of c.args.self.now)) at.names.keys at.yielded name at.invariant.kept (sym c.has.ensures ∙ c.if-has.false);
    }

pub loop-name-preserved-else-has : goal.loop-name-preserved-else-has
loop-name-preserved-else-has c =
    let at = c.loop-name in
    let name = c.in-Some.name in
    let steps : into_iter_items at.name-iterator ≡ name ∷ into_iter_items c.next.new.self = c.in-Some.ensures.steps.0 in
    record {
      rest = append_assoc at.yielded (name ∷ []) _ ∙ rw (← steps) at.invariant.rest;
      len = let was = at.invariant.len in let gone = c.in-Some.ensures.steps.1 in let short = ap length steps in omega arith;
      kept = one_left (is_selected (selections_of c.args.self.now)) at.names.keys at.yielded name at.invariant.kept (sym c.has.ensures ∙ c.if-has.false);
    }
