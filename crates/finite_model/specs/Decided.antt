-- What a truth value that code finds tells.
use Rattle.std.specs.Prelude.{Bool, true, false, not, List}
use Rattle.std.specs.List.{AllByRecursion}
use Rattle.text_core.specs.Names.{Text}
use Rattle.text_core.specs.Lists.{SomeOf}
use Rattle.logic_core.specs.Truth.{Structure, Assignment, EveryValue, SomeValue}

-- the fact holds, or it does not
abbrev pub Decides : Bool → Type 0 → Type 0
Decides true P = P
Decides false P = P → ⊥

-- of some member the fact is so decided; or of each it is decided the other way
abbrev pub DecidesMember : {X : Type 0} → Bool → Bool → (X → Type 0) → List X → Type 0
DecidesMember true wanted P xs = SomeOf (λ x. Decides wanted (P x)) xs
DecidesMember false wanted P xs = AllByRecursion (λ x. Decides (not wanted) (P x)) xs

-- the same of choices of elements for variables
abbrev pub DecidesChoice : Structure → Bool → Bool → (Assignment → Type 0) → List Text →
    Assignment → Type 0
DecidesChoice s true wanted P xs env = SomeValue s xs (λ e. Decides wanted (P e)) env
DecidesChoice s false wanted P xs env = EveryValue s xs (λ e. Decides (not wanted) (P e)) env
