use Rattle.std.proofs.Common.{◌≡◌, map, take}
use Rattle.model_search.specs.Rules.{premise_form}
use Rattle.model_search.proofs.goal.forms_of_premises.Given as goal

-- the forms of the first premises
abbrev pub invariant-loop-atom : goal.invariant-loop-atom
invariant-loop-atom l = l.forms ≡ map (premise_form l.constants l.universals) (take l.atom-index l.premises)
