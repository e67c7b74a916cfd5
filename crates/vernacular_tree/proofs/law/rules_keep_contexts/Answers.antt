use Rattle.vernacular_tree.proofs.Kept.{start_is_context, after_is_context, case_is_context}
use Rattle.vernacular_tree.proofs.law.rules_keep_contexts.Goals as goal

pub returns : goal.returns
returns c = record {
  start = λ constants task right. start_is_context constants task right;
  modus_ponens = λ constants task context form args right is formed inst. after_is_context constants task right context form args is formed inst;
  split = λ task context line lists number facts is at case_at. case_is_context task context line lists number facts is at case_at;
}
