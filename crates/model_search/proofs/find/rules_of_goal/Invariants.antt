use Rattle.std.proofs.Common.{take}
use Rattle.std.specs.List.{AllByRecursion}
use Rattle.logic_core.specs.Forms.{FormTrue}
use Rattle.model_search.specs.Candidates.{Candidate, world}
use Rattle.model_search.specs.Rules.{AreTrueRules}
use Rattle.model_search.proofs.find.rules_of_goal.Given as goal

-- the rules are true where the first forms are
abbrev pub invariant-loop-form : goal.invariant-loop-form
invariant-loop-form l = (c : Candidate) → AllByRecursion (FormTrue (world c)) (take l.form-index l.goal) → AreTrueRules c l.rules.items
