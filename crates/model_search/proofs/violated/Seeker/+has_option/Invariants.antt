use Rattle.model_search.proofs.violated.Seeker.+has_option.Given as goal

abbrev pub decreases-has_option : goal.decreases-has_option
decreases-has_option l = l.further
