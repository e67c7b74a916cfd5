-- The machine's stack, read as a row from its top.
use Rattle.std.proofs.Common.{◌≡◌, refl, sym, ◌∙◌, ap, subst, ◌<◌, List, [], ◌∷◌, ◌++◌, reverse}
use Rattle.std.specs.Prelude.{Option, Some, None}
use Rattle.std.proofs.lemmas.List.{reverse-append, reverse-reverse}
use Rattle.token_grammar.specs.Grammar.{Grammar}
use Rattle.token_grammar.specs.Plan.{Plan, IsPredictive, predicted, weight}
use Rattle.token_grammar.specs.Step.{Steps, Pushes, Expanded}
use Rattle.token_grammar.specs.declared.part.Step.{Step}
use Rattle.token_grammar.specs.declared.part.Step.TheVariants.{Expand}
use Rattle.token_grammar.proofs.Predicted.{numbered_among, weight_replaced}
use Rattle.token_grammar.proofs.Leaves.{expanded_once}

-- from its top, a stack is its last part and what is below it
pub on_top : {P : Type 0} (below : List P) (p : P) → reverse (below ++ (p ∷ [])) ≡ p ∷ reverse below
on_top below p = reverse-append below (p ∷ [])

-- what was pushed is the chosen row, which stands on top of what is below
pushed : {P : Type 0} (choice : Option (List P)) (below new : List P) → Pushes choice below new →
    (row : List P) × (choice ≡ Some row) × (reverse new ≡ row ++ reverse below)
pushed None below new h = absurd h
pushed (Some row) below new h =
    (row, refl, (ap reverse h ∙ reverse-append below (reverse row)) ∙ ap (λ r. r ++ reverse below) (reverse-reverse row))

-- a row weighs less than another where rows that are equal to them do
lighter_as : {P T : Type 0} (g : Grammar P T) (plan : Plan P T) (a b c d : List P) → a ≡ b → c ≡ d →
    weight g plan b < weight g plan d → weight g plan a < weight g plan c
lighter_as g plan a b c d first second h = rw (first, second) h

module _ {P T : Type 0} (g : Grammar P T) (plan : Plan P T) (p : P) (t : T) (stack below new : List P) (step : Step)
    (popped : stack ≡ below ++ (p ∷ [])) (does : Steps g plan p t below new step) (is : step ≡ Expand) where
  -- the chosen row was pushed
  pushes : Pushes (predicted g plan p t) below new
  pushes = rw is at does

  -- the stack weighs less after an expansion
  pub lighter : IsPredictive g plan → weight g plan (reverse new) < weight g plan (reverse stack)
  lighter law =
      let (row, chosen, now) = pushed (predicted g plan p t) below new pushes in
      let less = weight_replaced g plan law p (reverse below) row (numbered_among (plan.chosen p t) row (g.alternatives p) chosen) in
      lighter_as g plan (reverse new) (row ++ reverse below) (reverse stack) (p ∷ reverse below) now (ap reverse popped ∙ on_top below p) less

  -- the stack is an expanded row still
  pub expanded_further : (first : List P) → Expanded g plan t first (reverse stack) → Expanded g plan t first (reverse new)
  expanded_further first before =
      let (row, chosen, now) = pushed (predicted g plan p t) below new pushes in
      let top : reverse stack ≡ p ∷ reverse below = ap reverse popped ∙ on_top below p in
      let further = expanded_once g plan t p (reverse below) row (subst (λ r. Expanded g plan t first r) top before) chosen in
      subst (λ r. Expanded g plan t first r) (sym now) further
