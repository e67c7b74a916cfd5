use Rattle.std.proofs.Common.{◌≡◌, ◌∷◌, ◌++◌, map, length, ap, ◌∙◌, arith}
use Rattle.std.specs.Vec.Iter.{into_iter_items}
use Rattle.coherent_form.specs.Reading.{atom_moved, alternative_joined}
use Rattle.coherent_form.proofs.Joining.{atoms_stay, preceded_alternative}
use Rattle.coherent_form.proofs.Steps.{pushed_image, rest_of}
use Rattle.coherent_form.proofs.alternatives.each_preceded.Goals as goal

pub loop-second-preserved : goal.loop-second-preserved
loop-second-preserved c =
    let at = c.loop-second in
    let second = c.in-Some.second in
    let first = c.args.first.now in
    let steps : into_iter_items at.second-iterator ≡ second ∷ into_iter_items c.next.new.self = c.in-Some.ensures.steps.0 in
    record {
      rest = rest_of at.yielded (into_iter_items at.second-iterator) (into_iter_items c.next.new.self) c.args.seconds second steps at.invariant.rest;
      len = let was = at.invariant.len in let gone = c.in-Some.ensures.steps.1 in let short = ap length steps in omega arith;
      so_far = pushed_image (alternative_joined c.args.scope first) at.yielded second at.all c.push.new.self _ at.invariant.so_far c.in_ok-push.ensures.ok
          (preceded_alternative c.args.scope first second c.append.new.self c.requires
          (c.in_ok-append.ensures.ok ∙ ap (λ atoms. atoms ++ second.atoms)
          (c.in_ok-push_moved.ensures ∙ (λ j. c.new-atoms.ensures j ++ map (atom_moved c.args.scope 0) (c.as_slice.ensures j)) ∙ atoms_stay c.args.scope first.atoms)));
    }
