use Rattle.std.proofs.Common.{◌≡◌, ◌++◌, map, ap, ◌∙◌}
use Rattle.std.proofs.lemmas.Result.{on_ok_weaker}
use Rattle.isar_text.specs.Names.{isar_name}
use Rattle.isar_text.specs.Formulas.{conclusion_text}
use Rattle.isar_text.specs.FormTexts.{variable_in}
use Rattle.isar_text.specs.Heads.{element_text}
use Rattle.isar_text.proofs.HeadWritten.{names_texts}
use Rattle.isar_text.proofs.head_text.put_goal.Goals as goal

pub returns : goal.returns
returns c =
    let task = c.args.task.now in
    let names : c.as_slice-2.result.now ≡ map (element_text task) c.args.parameters.now
    = c.as_slice-2.ensures ∙ c.in_ok-texts.ensures ∙ ap (map isar_name) (c.as_slice.ensures ∙ c.in_ok-names.ensures) ∙ names_texts task c.args.parameters.now in
    let goal_is = c.goal.ensures.value in
    on_ok_weaker c.put_conclusion.result
    (λ (e : c.put_conclusion.new.out ≡ c.args.out.now ++ conclusion_text task.tables (variable_in c.as_slice-2.result.now) c.goal.result.now.universals
    c.goal.result.now.existentials c.goal.result.now.disjuncts). e ∙
    (λ i. c.args.out.now ++ conclusion_text task.tables (variable_in (names i)) (goal_is i).universals (goal_is i).existentials (goal_is i).disjuncts))
    c.put_conclusion.ensures
