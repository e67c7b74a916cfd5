use Rattle.std.proofs.Common.{◌≡◌, ◌+◌, length, arith, ◌≤◌}
use Rattle.vernacular_tree.specs.Barren.{without}
use Rattle.vernacular_tree.specs.Sizes.{size}
use Rattle.vernacular_tree.proofs.Lowered.{without_proves, without_size}
use Rattle.vernacular_tree.proofs.law.least_proof_has_no_barren_step.Goals as goal

pub returns : goal.returns
returns c task context body path step least barren =
    let smaller : size (without (length context.lines) path step body) + 1 ≡ size body = without_size task body path step context barren in
    let no_less : size body ≤ size (without (length context.lines) path step body)
    = least.least (without (length context.lines) path step body) (without_proves task body path step context barren least.proves) in
    omega arith
