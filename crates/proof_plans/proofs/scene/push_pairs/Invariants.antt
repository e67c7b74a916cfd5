use Rattle.std.proofs.Common.{◌≡◌, ◌++◌, take}
use Rattle.proof_plans.specs.Scenes.{pairs_of}
use Rattle.proof_plans.proofs.scene.push_pairs.Given as goal

-- the first pairs were pushed
abbrev pub invariant-loop-at : goal.invariant-loop-at
invariant-loop-at l = l.draft ≡ record l.fn.draft { pairs = l.fn.draft.pairs ++ pairs_of l.base l.other_base (take l.at l.slots) (take l.at l.others) }
