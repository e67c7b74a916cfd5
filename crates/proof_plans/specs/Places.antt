-- Where the steps of a plan stand in a proof: what is worked out of its ties.
use Rattle.std.specs.Prelude.{ℕ, ◌+◌, ◌≤◌, ◌≡◌, ◌⊎◌, nat_lt, if◌then◌else◌, List, [], ◌∷◌, length, slice_get, Some}
use Rattle.vernacular_tree.specs.Contexts.{Task}
use Rattle.vernacular_tree.specs.declared.context.Context.{Context}
use Rattle.proof_plans.specs.declared.draft.Node.{Node}
use Rattle.proof_plans.specs.declared.draft.PlanTie as PlanTie
use Rattle.proof_plans.specs.declared.place.Place.{Place}
use Rattle.proof_plans.specs.declared.place.Next as Next
use Rattle.proof_plans.specs.declared.place.Next.TheVariants as next
use Rattle.proof_plans.specs.declared.place.Deeper as Deeper
use Rattle.proof_plans.specs.declared.place.Deeper.TheVariants as deeper
use Rattle.proof_plans.specs.declared.settle.Settled as Settled
use Rattle.proof_plans.specs.declared.settle.Settled.TheVariants as settled
use Rattle.proof_plans.specs.Runs.{Case, Above, Fire}
use Rattle.proof_plans.specs.Plans.{Tie}
use Rattle.proof_plans.specs.Embeds.{branch_image, TieHolds}
use Rattle.proof_plans.specs.Drafts.{IsBranch, IsTie}

-- how many of these numbers are below one
abbrev pub below : ℕ → List ℕ → ℕ
below index [] = 0
below index (other ∷ others) = (if nat_lt other index then 1 else 0) + below index others

module _ (task : Task) (lent : Context) (nodes : List Node) (values : List ℕ) where
  -- a branch leads to another one; number 0 tells nothing
  abbrev pub LeadsTo : ℕ → List Case → Type 0
  LeadsTo node own = (node ≡ 0)
      ⊎ ((branch : List Case) × IsBranch task lent nodes node branch
      × Above (branch_image values branch) own)

  -- the one of two branches that lead to a third which is the deeper
  abbrev pub IsDeeper : List Case → Deeper.Deeper → Type 0
  IsDeeper own (deeper.Level node) = LeadsTo node own
  IsDeeper own deeper.Apart = ⊥
  IsDeeper own deeper.Unknown = Unit {0}

  module _ (fires : List Fire) (indices : List ℕ) where
    -- as many steps as told come before a step, and its branch leads to where it stands
    pub record PlaceHolds (step : ℕ) (place : Place) : Type 0 where
      pub rank : (index : ℕ) → slice_get indices step ≡ Some index → place.rank ≤ below index indices
      pub level : (index : ℕ) (fire : Fire) → slice_get indices step ≡ Some index
          → slice_get fires index ≡ Some fire → LeadsTo place.level fire.branch

    pub record PlacesHold (places : List Place) : Type 0 where
      pub each : (step : ℕ) (place : Place) → slice_get places step ≡ Some place → PlaceHolds step place
      pub many : length indices ≡ length places

    -- what follows of a place
    abbrev pub NextHolds : Next.Next → Type 0
    NextHolds next.Same = Unit {0}
    NextHolds (next.At step place) = PlaceHolds step place
    NextHolds next.Dead = ⊥
    NextHolds next.Unknown = Unit {0}

    -- whatever is known of where steps stand
    abbrev pub Follows : List Place → PlanTie.PlanTie → Next.Next → Type 0
    Follows places kept result = (tie : Tie) → IsTie task lent nodes kept tie
        → TieHolds fires values indices tie → PlacesHold places → NextHolds result

    -- what follows of all ties
    abbrev pub IsSettled : List Place → Settled.Settled → Type 0
    IsSettled places settled.Same = PlacesHold places
    IsSettled places settled.Changed = PlacesHold places
    IsSettled places settled.Dead = ⊥
