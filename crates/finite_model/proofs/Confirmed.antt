-- A structure is a countermodel, or there is one reason why it is none.
use Rattle.std.specs.Prelude.{◌≡◌, ℕ, ◌+◌, List, [], ◌∷◌, ◌++◌, length, Ok, Err}
use Rattle.std.specs.List.{AllByRecursion}
use Rattle.std.proofs.Common.{refl, sym, ◌∙◌, ap, subst, inr, arith}
use Rattle.text_core.specs.Names.{Text}
use Rattle.text_core.specs.Exact.{Exact}
use Rattle.text_core.proofs.Laws.{exact_value, exact_refusal}
use Rattle.logic_core.specs.Truth.{IsTrueIn}
use Rattle.logic_core.specs.declared.problem.Role.{Role}
use Rattle.logic_core.specs.declared.problem.Role.TheVariants.{Conjecture}
use Rattle.logic_core.specs.declared.problem.Fof.{Fof}
use Rattle.model_text.specs.Structures.{Finite, IsSound}
use Rattle.finite_model.specs.declared.refusal.ConfirmRefusal.{ConfirmRefusal}
use Rattle.finite_model.specs.declared.refusal.ConfirmRefusal.TheVariants.{ModelPlace, ModelFails, Memory}
use Rattle.finite_model.specs.Structures.{finite}
use Rattle.finite_model.specs.Countermodels.{Wanted, Unwanted, Suits, Fails, IsPlaced, IsCountermodel, IsFirst, IsConfirmFault}

-- P does not hold of a member behind a front, where Q excludes it
behind_front : {X : Type 0} (P Q : X → Type 0) → ((x : X) → P x → Q x → ⊥) → (front rest : List X) (x : X) → AllByRecursion P (front ++ x ∷ rest) → Q x → ⊥
behind_front P Q apart [] rest x all fails = apart x all.0 fails
behind_front P Q apart (y ∷ front) rest x all fails = behind_front P Q apart front rest x all.1 fails

-- fronts of one list, each up to the first that fails, are as long
same_front : {X : Type 0} (P Q : X → Type 0) → ((x : X) → P x → Q x → ⊥) → (front other rest more : List X) (x y : X) →
    front ++ x ∷ rest ≡ other ++ y ∷ more → AllByRecursion P front → AllByRecursion P other → Q x → Q y → length front ≡ length other
same_front P Q apart [] [] rest more x y e a b f g = refl
same_front P Q apart [] (z ∷ other) rest more x y e a b f g = let same : x ≡ z = cc in absurd (apart z b.0 (subst Q same f))
same_front P Q apart (z ∷ front) [] rest more x y e a b f g = let same : z ≡ y = cc in absurd (apart z a.0 (subst Q (sym same) g))
same_front P Q apart (z ∷ front) (w ∷ other) rest more x y e a b f g =
    let later : front ++ x ∷ rest ≡ other ++ y ∷ more = cc in
    let same = same_front P Q apart front other rest more x y later a.1 b.1 f g in omega (arith, same)

-- the first that fails is one
one_first : {X : Type 0} (P Q : X → Type 0) → ((x : X) → P x → Q x → ⊥) → (list : List X) (m n : ℕ) → IsFirst P Q list m → IsFirst P Q list n → m ≡ n
one_first P Q apart list m n first second =
    let same = same_front P Q apart first.front second.front first.rest second.rest first.item second.item (sym first.split ∙ second.split)
    first.holds second.holds first.fails second.fails in
    first.number_is ∙ ap (λ k. k + 1) same ∙ sym second.number_is

-- where one fails, not each holds
no_first : {X : Type 0} (P Q : X → Type 0) → ((x : X) → P x → Q x → ⊥) → (list : List X) (n : ℕ) → AllByRecursion P list → IsFirst P Q list n → ⊥
no_first P Q apart list n all first = behind_front P Q apart first.front first.rest first.item (subst (AllByRecursion P) first.split all) first.fails

-- a formula that fails is not as it is wanted
wanted_apart : (role : Role) (P : Type 0) → Wanted role P → Unwanted role P → ⊥
wanted_apart Conjecture P w u = w u
wanted_apart _ P w u = u w

module _ (constants : List Text) (problem : List Fof) (m : Finite) where
  -- a constant does not have a place and have none
  placed_apart : (c : Text) → IsPlaced m c → (IsPlaced m c → ⊥) → ⊥
  placed_apart c placed not = not placed

  suits_apart : (fof : Fof) → Suits (finite m) fof → Fails (finite m) fof → ⊥
  suits_apart fof suits fails = wanted_apart fof.role (IsTrueIn (finite m) fof.formula []) suits fails

  -- there is one refusal
  pub one_refusal : (a b : ConfirmRefusal) → IsConfirmFault constants problem m a → IsConfirmFault constants problem m b → a ≡ b
  one_refusal (ModelPlace k) (ModelPlace n) first second =
      ap ModelPlace (one_first (IsPlaced m) (λ c. IsPlaced m c → ⊥) placed_apart constants k n first second)
  one_refusal (ModelPlace k) (ModelFails n) first second =
      absurd (no_first (IsPlaced m) (λ c. IsPlaced m c → ⊥) placed_apart constants k second.0 first)
  one_refusal (ModelFails k) (ModelPlace n) first second =
      absurd (no_first (IsPlaced m) (λ c. IsPlaced m c → ⊥) placed_apart constants n first.0 second)
  one_refusal (ModelFails k) (ModelFails n) first second =
      ap ModelFails (one_first (Suits (finite m)) (Fails (finite m)) suits_apart problem k n first.1 second.1)
  one_refusal Memory b first second = absurd first
  one_refusal a Memory first second = absurd second

  -- a countermodel is not refused
  pub never_both : (refusal : ConfirmRefusal) → IsCountermodel constants problem m → IsConfirmFault constants problem m refusal → ⊥
  never_both (ModelPlace n) counter fault = no_first (IsPlaced m) (λ c. IsPlaced m c → ⊥) placed_apart constants n counter.placed fault
  never_both (ModelFails n) counter fault = no_first (Suits (finite m)) (Fails (finite m)) suits_apart problem n counter.suits fault.1
  never_both Memory counter fault = fault

  -- a countermodel is confirmed
  pub exact_done : (done : Unit {0}) → IsCountermodel constants problem m →
      Exact (λ d. IsCountermodel constants problem m) (IsConfirmFault constants problem m) Memory (Ok done)
  exact_done done counter =
      exact_value (λ (d : Unit {0}). IsCountermodel constants problem m) (IsConfirmFault constants problem m) Memory
      (λ a b h k. refl) one_refusal (λ d refusal h k. never_both refusal h k) done counter

  -- what is refused is refused for its reason
  pub exact_fault : (refusal : ConfirmRefusal) → IsConfirmFault constants problem m refusal →
      Exact (λ (d : Unit {0}). IsCountermodel constants problem m) (IsConfirmFault constants problem m) Memory (Err refusal)
  exact_fault refusal fault =
      exact_refusal (λ (d : Unit {0}). IsCountermodel constants problem m) (IsConfirmFault constants problem m) Memory
      (λ a b h k. refl) one_refusal (λ d refusal h k. never_both refusal h k) refusal (inr fault)

  -- what was looked at makes a countermodel
  pub counter_made : IsSound m → AllByRecursion (IsPlaced m) constants → AllByRecursion (Suits (finite m)) problem → IsCountermodel constants problem m
  counter_made sound placed suits = record { some = sound.some; placed = placed; suits = suits }
