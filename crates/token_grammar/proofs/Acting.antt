-- What the machine has the builder do, followed from the row on its stack.
use Rattle.std.proofs.Common.{◌≡◌, refl, sym, ◌∙◌, ap, subst, ◌+◌, arith, true, ◌&&◌, List, [], ◌∷◌, ◌++◌, length, reverse, append_assoc, append-nil, length-append}
use Rattle.std.specs.Prelude.{Option, Some, None, IsTrue}
use Rattle.std.specs.List.{list_all}
use Rattle.std.proofs.lemmas.List.{length-reverse, reverse-append, reverse-reverse}
use Rattle.std.proofs.lemmas.Bool.{and_parts}
use Rattle.text_core.specs.Lists.{IsAmong}
use Rattle.token_grammar.specs.Grammar.{Grammar}
use Rattle.token_grammar.specs.Plan.{Plan, predicted, is_nullable}
use Rattle.token_grammar.specs.Step.{Steps, Pushes}
use Rattle.token_grammar.specs.Acting.{Acted, Continues, ComesTo}
use Rattle.token_grammar.specs.Acting.Acted.{token, passed, replaced}
use Rattle.token_grammar.specs.declared.part.Step.{Step}
use Rattle.token_grammar.specs.declared.part.Step.TheVariants.{Expand}
use Rattle.token_grammar.proofs.Predicted.{numbered_among, empty_among}
use Rattle.token_grammar.proofs.Moving.{on_top}
use Rattle.token_grammar.proofs.Reading.{list_all-append}

module _ {P T B : Type 0} (g : Grammar P T) (takes : P → T → B → B) (passes : P → B → B) (first : List P) (before : B) where
  -- the part that is found takes the token
  pub continues_taken : (us : List T) (t : T) (row last : List P) (p : P) (now later : B) → IsTrue (g.takes p t) →
      Continues g takes passes first before us row now → ComesTo g takes passes row now (Some p) last later →
      Continues g takes passes first before (us ++ (t ∷ [])) last (takes p t later)
  continues_taken us t row last p now later taken goes comes ts after acted =
      rw (append_assoc us (t ∷ []) ts) (goes (t ∷ ts) after (comes (t ∷ ts) after (token taken acted)))

  -- the part on top of the stack passes
  pub continues_empty : (us : List T) (p : P) (stack below : List P) (now : B) → stack ≡ below ++ (p ∷ []) →
      IsAmong [] (g.alternatives p) → Continues g takes passes first before us (reverse stack) now →
      Continues g takes passes first before us (reverse below) (passes p now)
  continues_empty us p stack below now popped among goes ts after acted =
      goes ts after (subst (λ row. Acted g takes passes row now ts after) (sym (ap reverse popped ∙ on_top below p)) (passed among acted))

  -- a row with members stands for the part on top of the stack
  continues_filled : (p q : P) (rest stack below : List P) (now : B) → stack ≡ below ++ (p ∷ []) →
      IsAmong (q ∷ rest) (g.alternatives p) → Continues g takes passes first before [] (reverse stack) now →
      Continues g takes passes first before [] (reverse (below ++ reverse (q ∷ rest))) now
  continues_filled p q rest stack below now popped among goes ts after acted =
      let pushed : reverse (below ++ reverse (q ∷ rest)) ≡ q ∷ (rest ++ reverse below) =
      reverse-append below (reverse (q ∷ rest)) ∙ ap (λ row. row ++ reverse below) (reverse-reverse (q ∷ rest)) in
      goes ts after (subst (λ row. Acted g takes passes row now ts after) (sym (ap reverse popped ∙ on_top below p))
      (replaced q rest among (subst (λ row. Acted g takes passes row now ts after) pushed acted)))

-- the length of a stack onto which a row was pushed
length_pushed : {P : Type 0} (below row : List P) → length (below ++ reverse row) ≡ length below + length row
length_pushed below row = length-append below (reverse row) ∙ ap (λ n. length below + n) (length-reverse row)

-- the row that was pushed is an alternative of the part
pushed_among : {P T : Type 0} (g h : Grammar P T) (plan : Plan P T) (p : P) (t : T) (below new : List P) (step : Step) → g ≡ h →
    Steps g plan p t below new step → step ≡ Expand →
    (row : List P) × IsAmong row (h.alternatives p) × (new ≡ below ++ reverse row)
pushed_among {P = P} {T = T} g h plan p t below new step same does is =
    of_choice (predicted g plan p t) refl (subst (λ s. Steps g plan p t below new s) is does)
  where
    of_choice : (choice : Option (List P)) → predicted g plan p t ≡ choice → Pushes choice below new →
        (row : List P) × IsAmong row (h.alternatives p) × (new ≡ below ++ reverse row)
    of_choice None chosen pushes = absurd pushes
    of_choice (Some row) chosen pushes =
        (row, subst (λ x. IsAmong row (x.alternatives p)) same (numbered_among (plan.chosen p t) row (g.alternatives p) chosen), pushes)

module _ {P T B : Type 0} (g h : Grammar P T) (plan : Plan P T) (takes : P → T → B → B) (passes : P → B → B) (first : List P)
    (before now : B) (p : P) (t : T) (stack below new : List P) (step : Step) (same : g ≡ h) (popped : stack ≡ below ++ (p ∷ []))
    (does : Steps g plan p t below new step) where
  -- where nothing was pushed the part passes
  pub continues_passed : step ≡ Expand → length new ≡ length below → Continues h takes passes first before [] (reverse stack) now →
      Continues h takes passes first before [] (reverse new) (passes p now)
  continues_passed is equal goes =
      let (row, among, e) = pushed_among g h plan p t below new step same does is in
      of_row row among e
    where
      of_row : (row : List P) → IsAmong row (h.alternatives p) → new ≡ below ++ reverse row →
          Continues h takes passes first before [] (reverse new) (passes p now)
      of_row [] among e =
          let none : new ≡ below = e ∙ append-nil below in
          subst (λ x. Continues h takes passes first before [] (reverse x) (passes p now)) (sym none)
          (continues_empty h takes passes first before [] p stack below now popped among goes)
      of_row (q ∷ rest) among e = absurd (omega (arith, ap length e, length_pushed below (q ∷ rest), equal))

  -- where something was pushed it stands for the part
  pub continues_pushed : step ≡ Expand → (length new ≡ length below → ⊥) → Continues h takes passes first before [] (reverse stack) now →
      Continues h takes passes first before [] (reverse new) now
  continues_pushed is unequal goes =
      let (row, among, e) = pushed_among g h plan p t below new step same does is in
      of_row row among e
    where
      of_row : (row : List P) → IsAmong row (h.alternatives p) → new ≡ below ++ reverse row →
          Continues h takes passes first before [] (reverse new) now
      of_row [] among e = absurd (unequal (omega (arith, ap length e, length_pushed below [])))
      of_row (q ∷ rest) among e =
          subst (λ x. Continues h takes passes first before [] (reverse x) now) (sym e)
          (continues_filled h takes passes first before p q rest stack below now popped among goes)

-- of parts that may stand for no tokens the last has an empty row, and so have the others
pub nullable_top : {P T : Type 0} (g h : Grammar P T) (p : P) (stack below : List P) → g ≡ h → stack ≡ below ++ (p ∷ []) →
    IsTrue (list_all (is_nullable g) stack) → IsTrue (list_all (is_nullable g) below) × IsAmong [] (h.alternatives p)
nullable_top g h p stack below same popped all =
    let split : (is_nullable g p && list_all (is_nullable g) below) ≡ true =
    sym (list_all-append (is_nullable g) below p) ∙ subst (λ x. list_all (is_nullable g) x ≡ true) popped all in
    let (empty, others) = and_parts (is_nullable g p) (list_all (is_nullable g) below) split in
    (others, subst (λ x. IsAmong [] (x.alternatives p)) same (empty_among (g.alternatives p) empty))
