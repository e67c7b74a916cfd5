-- The ways that are gathered.
use Rattle.std.specs.Prelude.{ℕ, ◌<◌, ◌≡◌, List, ◌++◌}
use Rattle.text_core.specs.Lists.{IsAmong}
use Rattle.proof_plans.specs.declared.choice.Choice as Choice
use Rattle.proof_plans.specs.declared.choice.Choice.TheVariants.{Given, Case, Step, Form}

-- a way of this kind, by the fact with this number
abbrev pub numbered : Choice.Choice → ℕ → Choice.Choice
numbered (Given line other) number = Given line number
numbered (Case node other) number = Case node number
numbered (Step step other) number = Step step number
numbered (Form form other) number = Form form number
numbered way number = way

-- ways were added behind those that were there
abbrev pub Begins : List Choice.Choice → List Choice.Choice → Type 0
Begins old new = (more : List Choice.Choice) × (new ≡ old ++ more)

-- ways were added behind those that were there, and among them is each with this property
pub record HasAll (old new : List Choice.Choice) (P : Choice.Choice → Type 0) : Type 0 where
  pub more : List Choice.Choice
  pub new_is : new ≡ old ++ more
  pub all : (way : Choice.Choice) → P way → IsAmong way more

-- a property that some number gives, and one that a number below a count gives
abbrev pub Numbered : (ℕ → Choice.Choice → Type 0) → Choice.Choice → Type 0
Numbered P way = (number : ℕ) × P number way

abbrev pub NumberedBelow : ℕ → (ℕ → Choice.Choice → Type 0) → Choice.Choice → Type 0
NumberedBelow count P way = (number : ℕ) × (number < count) × P number way
