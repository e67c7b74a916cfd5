use Rattle.std.proofs.Common.{◌≡◌, ◌∷◌, ◌++◌, map, length, ap, ◌∙◌, arith}
use Rattle.std.specs.Vec.Iter.{into_iter_items}
use Rattle.coherent_form.specs.Reading.{atom_moved, form_guarded}
use Rattle.coherent_form.proofs.Joining.{atoms_stay, asking_form}
use Rattle.coherent_form.proofs.Steps.{pushed_image, rest_of}
use Rattle.coherent_form.proofs.rule.each_asking.Goals as goal

pub loop-form-preserved : goal.loop-form-preserved
loop-form-preserved c =
    let at = c.loop-form in
    let form = c.in-Some.form in
    let guard = c.args.guard.now in
    let steps : into_iter_items at.form-iterator ≡ form ∷ into_iter_items c.next.new.self = c.in-Some.ensures.steps.0 in
    record {
      rest = rest_of at.yielded (into_iter_items at.form-iterator) (into_iter_items c.next.new.self) c.args.forms form steps at.invariant.rest;
      len = let was = at.invariant.len in let gone = c.in-Some.ensures.steps.1 in let short = ap length steps in omega arith;
      so_far = pushed_image (form_guarded c.args.scope guard) at.yielded form at.all c.push.new.self _ at.invariant.so_far c.in_ok-push.ensures.ok
          (asking_form c.args.scope guard form c.append.new.self c.requires
          (c.in_ok-append.ensures.ok ∙ ap (λ atoms. atoms ++ form.premises)
          (c.in_ok-push_moved.ensures ∙ (λ j. c.new-premises.ensures j ++ map (atom_moved c.args.scope 0) (c.as_slice.ensures j)) ∙ atoms_stay c.args.scope guard.atoms)));
    }
