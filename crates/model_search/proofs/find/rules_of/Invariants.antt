use Rattle.std.specs.List.{AllByRecursion}
use Rattle.logic_core.specs.Forms.{FormTrue}
use Rattle.model_search.specs.Candidates.{Candidate, GivenFormsTrue, world}
use Rattle.model_search.specs.Rules.{AreTrueRules}
use Rattle.model_search.proofs.find.rules_of.Given as goal

-- the rules are true where the problem's forms and the goal's are
abbrev pub invariant-loop-number : goal.invariant-loop-number
invariant-loop-number l = (c : Candidate) → GivenFormsTrue l.task c → AllByRecursion (FormTrue (world c)) l.goal → AreTrueRules c l.rules.items
