use Rattle.std.proofs.Common.{◌+◌, ◌∙◌, sym, subst}
use Rattle.std.specs.List.{AllByRecursion}
use Rattle.logic_core.specs.Forms.{FormTrue}
use Rattle.model_search.specs.Candidates.{Candidate, world}
use Rattle.model_search.specs.Rules.{SuitsRules}
use Rattle.model_search.proofs.Ruling.{none_of_size, none_further, of_none}
use Rattle.model_search.proofs.find.find_model.Goals as goal

pub loop-before-preserved : goal.loop-before-preserved
loop-before-preserved c =
    let task = c.args.task.now in
    let problem = c.args.problem.now in
    let before = c.loop-before.before in
    none_further task.tables.constants problem before c.loop-before.invariant
    (none_of_size problem task c.in_ok-rules.rules.items (before + 1) c.as_slice.ensures.allowed c.requires.task c.forms.ensures.right
    (λ candidate given all. c.in_ok-rules.ensures candidate given
    (subst (AllByRecursion (FormTrue (world candidate))) (sym (c.as_slice-2.ensures ∙ c.in_ok-goal.ensures)) all))
    (subst (λ rules. (candidate : Candidate) → SuitsRules (before + 1) rules candidate → ⊥) c.as_slice-in-loop-before.ensures.value
    (of_none c.in_ok-model.field-0 c.in_default.is c.in_ok-model.ensures.none)))
