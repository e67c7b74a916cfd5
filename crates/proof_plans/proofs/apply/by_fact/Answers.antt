use Rattle.std.proofs.Common.{◌∙◌, sym, ap, List}
use Rattle.std.proofs.lemmas.Bool.{OnTrue_at, OnTrue_from}
use Rattle.logic_core.specs.declared.form.Slot.{Slot}
use Rattle.vernacular_tree.specs.Contexts.{atom_at}
use Rattle.proof_plans.specs.Scenes.{pairs_of}
use Rattle.proof_plans.specs.Taking.{with_pairs}
use Rattle.proof_plans.proofs.Reading.{pairs_hold}
use Rattle.proof_plans.proofs.apply.by_fact.Goals as goal

pub returns-in-Some-Some : goal.returns-in-Some-Some
returns-in-Some-Some c =
    let left = c.in-Some-Some.left in let right = c.in-Some-Some.right in
    OnTrue_from c.push_pairs.result _
    (λ told. record {
      pairs = pairs_of left.base right.base left.atom.now.args right.atom.now.args;
      are = λ constants task lent n d nodes is values task_is ok scene goal_is fact.
          pairs_hold values left.atom.now right.atom.now left.base right.base is.atom (atom_at fact.variables fact.atom)
          (c.in-Some-Some.ensures constants task lent nodes is task_is scene goal_is)
          (c.in-Some-Some.ensures' constants task lent fact.atoms fact.variables fact.atom task_is ok scene fact.listed fact.atom_is)
          (sym fact.same);
      new_is = OnTrue_at told c.push_pairs.ensures ∙ ap (λ (xs : List Slot). with_pairs (pairs_of left.base right.base xs c.as_slice-in-Some-Some.result.now) c.args.draft.now) c.as_slice.ensures
          ∙ ap (λ (ys : List Slot). with_pairs (pairs_of left.base right.base left.atom.now.args ys) c.args.draft.now) c.as_slice-in-Some-Some.ensures;
    })
