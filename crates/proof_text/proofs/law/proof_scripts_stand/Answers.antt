use Rattle.std.proofs.Common.{◌+◌, ◌^◌, ◌*◌, ◌≤◌, max, length, arith}
use Rattle.vernacular_tree.specs.Sizes.{size}
use Rattle.proof_text.proofs.ScriptStands.{script_stands}
use Rattle.proof_text.proofs.law.proof_scripts_stand.Goals as goal

pub returns : goal.returns
returns c = λ edition task body distinct right bounded proves.
    let few = right.few_constants in
    let narrow = right.goal.narrow.variables in
    let small = bounded.small in
    let room : max 1 (length task.tables.constants + task.goal.universals) + 64 * size body ≤ 2 ^ 64 = omega arith in
    script_stands task (2 ^ 64) (λ a b below also same. c.printed_names_differ.ensures task.tables.constants a b distinct below also same) right edition body
    room proves
