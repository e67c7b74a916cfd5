-- The files that a demonstration has.
use Rattle.std.specs.Prelude.{codes}
use Rattle.std.specs.FinMap as finite
use Rattle.std.specs.Cmp.Lexicographic.{slice_cmp, nat_list_cmp_total}
use Rattle.std.specs.Ordering.{nat_cmp}
use Rattle.std.proofs.Common.{◌≡◌, List, [], Some, refl, sym, ap, subst, ◌∙◌}
use Rattle.text_core.specs.Names.{Text}
use Rattle.io_core.specs.Known.{Known}
use Rattle.io_core.specs.Fetched.{Grows}
use Rattle.larus_cli.specs.Words.{demo_problem, demo_proof}
use Rattle.larus_cli.specs.OwnFiles.{two_held, two_files}

-- what is held under the name of the proof
pub proof_held : (problem proof : Text) → finite.get (two_held problem proof) demo_proof ≡ Some proof
proof_held problem proof = finite.get-insert nat_list_cmp_total (finite.insert finite.empty demo_problem problem) demo_proof proof demo_proof

-- what is held under the name of the problem
pub problem_held : (problem proof : Text) → finite.get (two_held problem proof) demo_problem ≡ Some problem
problem_held problem proof =
    finite.get-insert nat_list_cmp_total (finite.insert finite.empty demo_problem problem) demo_proof proof demo_problem
    ∙ finite.get-insert nat_list_cmp_total finite.empty demo_problem problem demo_problem

-- such files stay as they are where what they hold does
pub files_stay : (problem proof other another : Text) → Grows (two_files problem proof) (two_files other another) →
    two_files other another ≡ two_files problem proof
files_stay problem proof other another grows = ap (λ held. record { held = held; blamed = Some []; faults = 0; given = 0 }) grows.held
