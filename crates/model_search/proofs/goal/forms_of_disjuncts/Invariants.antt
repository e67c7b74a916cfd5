use Rattle.std.proofs.Common.{◌≡◌, map, take}
use Rattle.model_search.specs.Rules.{disjunct_form}
use Rattle.model_search.proofs.goal.forms_of_disjuncts.Given as goal

-- the forms of the first disjuncts
abbrev pub invariant-loop-disjunct : goal.invariant-loop-disjunct
invariant-loop-disjunct l = l.forms ≡ map (disjunct_form l.constants l.goal) (take l.disjunct-index l.disjuncts)
