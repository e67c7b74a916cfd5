use Rattle.std.proofs.Common.{◌++◌, ap, ◌∙◌}
use Rattle.std.proofs.lemmas.Result.{on_ok_weaker}
use Rattle.vernacular_tree.specs.Contexts.{start_context}
use Rattle.coherent_form.specs.Tasks.{proof_task}
use Rattle.isar_text.specs.Heads.{isar_head}
use Rattle.isar_text.specs.Bodies.{body_text, qed_text}
use Rattle.isar_text.proofs.BranchesTold.{three_put}
use Rattle.isar_text.proofs.writer.put_proof.Goals as goal

pub returns-clause-text : goal.returns-clause-text
returns-clause-text c =
    let task = c.args.task.now in
    on_ok_weaker c.put_qed.result
    (three_put c.args.out.now (isar_head task) (body_text 0 task c.args.proof.now (start_context (proof_task task))) (qed_text 0) c.put_head.new.out
    c.put_body.new.out c.put_qed.new.out c.in_ok-put_head.ensures
    (c.in_ok-put_body.ensures.text ∙ (λ i. c.put_head.new.out ++ body_text 0 task (c.body-body.ensures.value i) (c.in_ok-branch.ensures.context i))))
    c.put_qed.ensures
