use Rattle.std.proofs.Common.{◌++◌, map, ◌∙◌}
use Rattle.coherent_form.specs.Reading.{atom_moved}
use Rattle.coherent_form.proofs.Joining.{atoms_stay}
use Rattle.coherent_form.proofs.alternatives.copied.Goals as goal

pub returns : goal.returns
returns c = λ i. record {
  variables = c.args.alternative.now.variables;
  atoms = (c.in_ok-push_moved.ensures ∙ (λ j. c.new-atoms.ensures j ++ map (atom_moved 0 0) (c.as_slice.ensures j)) ∙ atoms_stay 0 c.args.alternative.now.atoms) i;
}
