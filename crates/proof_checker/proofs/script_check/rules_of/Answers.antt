use Rattle.std.proofs.Common.{[], ◌∷◌, ◌++◌, ap, sym, ◌∙◌, arith}
use Rattle.std.proofs.lemmas.Grind.{common_steps}
use Rattle.proof_checker.specs.Running.{rules_in}
use Rattle.proof_checker.proofs.Opening.{rules_last, rules_gap}
use Rattle.proof_checker.proofs.script_check.rules_of.Goals as goal

pub loop-node-preserved-in-Gap : goal.loop-node-preserved-in-Gap
loop-node-preserved-in-Gap c = record {
  rest = grind (arith, common_steps);
  len = grind (arith, common_steps);
  so_far = c.loop-node.invariant.so_far ∙ sym (rules_gap c.loop-node.yielded c.in-Gap.within)
      ∙ ap (λ node. rules_in (c.loop-node.yielded ++ node ∷ [])) (sym c.in-Gap.is);
}

pub loop-node-preserved : goal.loop-node-preserved
loop-node-preserved c = record {
  rest = grind (arith, common_steps);
  len = grind (arith, common_steps);
  so_far = c.in_ok-push-in-Rule.ensures.ok ∙ ap (λ rules. rules ++ c.in-Rule.rule ∷ []) c.loop-node.invariant.so_far ∙ sym (rules_last c.loop-node.yielded c.in-Rule.rule)
      ∙ ap (λ node. rules_in (c.loop-node.yielded ++ node ∷ [])) (sym c.in-Rule.is);
}
