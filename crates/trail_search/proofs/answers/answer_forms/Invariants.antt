use Rattle.std.proofs.Common.{◌≡◌, map, take}
use Rattle.trail_search.specs.Answers.{answer_of}
use Rattle.trail_search.proofs.answers.answer_forms.Given as goal

-- the forms of the first disjuncts
abbrev pub invariant-loop-atoms : goal.invariant-loop-atoms
invariant-loop-atoms l = l.forms ≡ map (answer_of l.task) (take l.atoms-index l.goal.disjuncts)
