-- The instances of a form over facts: lists of elements at which every premise is a fact.
use Rattle.std.specs.Prelude.{ℕ, ◌<◌, ◌≡◌, true, List, length}
use Rattle.std.specs.List.{AllByRecursion}
use Rattle.logic_core.specs.declared.form.Form.{Form}
use Rattle.fact_store.specs.Facts.{Fact}
use Rattle.instance_cursor.specs.Facts.{stands_at}

-- one element for each universal variable, those in no premise too, and every premise at them is
-- a fact
pub record IsInstanceOver (form : Form) (facts : List Fact) (elements : ℕ) (args : List ℕ)
    : Type 0 where
  pub length_is : length args ≡ form.universals
  pub known : AllByRecursion (λ e. e < elements) args
  pub premises : AllByRecursion (λ atom. stands_at facts args atom ≡ true) form.premises
