use Rattle.vernacular_tree.proofs.Lowered.{without_proves, without_size}
use Rattle.vernacular_tree.proofs.law.barren_step_may_be_left_out.Goals as goal

pub returns : goal.returns
returns c = record {
  proves = λ task context body path step proves barren. without_proves task body path step context barren proves;
  smaller = λ task context body path step barren. without_size task body path step context barren;
}
