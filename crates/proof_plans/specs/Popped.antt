-- The newest item of a stack is taken away.
use Rattle.std.specs.Prelude.{◌≡◌, Option, Some, None}
use Rattle.proof_plans.specs.Drafts.{Drafted}

-- it was the newest; with none, nothing changes
abbrev pub IsPopped : {X : Type 0} → (X → Drafted → Drafted) → Drafted → Drafted → Option X → Type 0
IsPopped push old new (Some item) = old ≡ push item new
IsPopped push old new None = new ≡ old
