-- What a watcher has seen of tokens is the effect of the value that they spell.
use Rattle.std.proofs.Common.{◌≡◌, refl, sym, ◌∙◌, ap, subst, true, List, [], ◌∷◌, ◌++◌, append-nil}
use Rattle.token_grammar.specs.Grammar.{Grammar}
use Rattle.token_grammar.specs.Taken.{Taken}
use Rattle.token_grammar.specs.Taken.Taken.{stop, token, part}
use Rattle.token_grammar.specs.Plan.{Plan, IsPredictive}
use Rattle.token_grammar.specs.Watch.{Watcher, Sees}
use Rattle.token_grammar.specs.Making.{Choice, element, RowValues, Making}
use Rattle.token_grammar.specs.Building.{IsBuilding, after_members, after_row}
use Rattle.token_grammar.specs.SpelledAs.{SpelledAs, SpelledRow}
use Rattle.token_grammar.specs.SpelledAs.SpelledAs.{of_token, of_row}
use Rattle.token_grammar.specs.SpelledAs.SpelledRow.{none, member}
use Rattle.token_grammar.specs.Answers.{IsAccepted}
use Rattle.token_grammar.proofs.Spelling.{joined}
use Rattle.token_grammar.proofs.Agreement.{taken_length, one_taking_of_text}
use Rattle.token_grammar.proofs.Seeing.{sees_apart}
use Rattle.token_grammar.proofs.OfValues.{element_among}

module _ {P T S F : Type 0} (g : Grammar P T) (plan : Plan P T) (law : IsPredictive g plan) (watcher : Watcher P T S F)
    (Value : P → Type 0) (making : Making g Value) (looks : P → T → S → S) (effect : (p : P) → Value p → S → S)
    (agrees : (before after : S) (p : P) (t : T) → watcher.sees before p t after → after ≡ looks p t before)
    (telling : IsBuilding g Value making looks (λ p seen. seen) effect) where
  -- parts take the tokens, and what is seen with them is computed so
  Tells : List P → List T → (S → S) → Type 0
  Tells row ts does = (takers : List P) × Taken g true row ts takers ×
      ((before after : S) → Sees watcher before takers ts after → after ≡ does before)

  -- of a part that stands for a row only the members are seen
  tells_row_of : (p : P) (row : List P) (values : RowValues Value row) (s : S) →
      after_row Value effect (λ p seen. seen) p row values s ≡ after_members Value effect row values s
  tells_row_of p [] values s = refl
  tells_row_of p (q ∷ row) values s = refl

  -- over no tokens nothing is seen
  tells_nothing : Tells [] [] (λ before. before)
  unfolding Tells
  tells_nothing = ([], stop tt, λ before after seen. seen)

  -- what is seen of a part's token is the effect of its value
  tells_token : (p : P) (t : T) (taken : g.takes p t ≡ true) → Tells (p ∷ []) (t ∷ []) (effect p (making.of_token p t taken))
  unfolding Tells
  tells_token p t taken = (
    p ∷ [],
    token taken (stop tt),
    λ before after (between, sees, same). same ∙ (agrees before between p t sees ∙ telling.token p t taken before),
  )

  -- what is seen of a part that stands for a row is the effect of the value made of the row
  tells_part : (p : P) (choice : Choice (g.alternatives p)) (values : RowValues Value (element (g.alternatives p) choice)) (ts : List T) →
      Tells (element (g.alternatives p) choice) ts (after_members Value effect (element (g.alternatives p) choice) values) →
      Tells (p ∷ []) ts (effect p (making.of_row p choice values))
  unfolding Tells
  tells_part p choice values ts (takers, taken, tells) = (
    takers,
    part (element (g.alternatives p) choice) (element_among (g.alternatives p) choice)
        (subst (λ row. Taken g true row ts takers) (sym (append-nil (element (g.alternatives p) choice))) taken),
    λ before after seen. tells before after seen ∙
        (sym (tells_row_of p (element (g.alternatives p) choice) values before) ∙ telling.row p choice values before),
  )

  -- what is seen of a part and then of a row is the effect of one value after the other
  tells_joined : (p : P) (row : List P) (value : Value p) (values : RowValues Value row) (us ts : List T) →
      Tells (p ∷ []) us (effect p value) → Tells row ts (after_members Value effect row values) →
      Tells (p ∷ row) (us ++ ts) (λ before. after_members Value effect row values (effect p value before))
  unfolding Tells
  tells_joined p row value values us ts (ps, front, first) (qs, back, later) = (
    ps ++ qs,
    joined g front back,
    λ before after seen.
        let (between, here, there) = sees_apart watcher ps qs us ts before after (taken_length front) seen in
        later between after there ∙ ap (after_members Value effect row values) (first before between here),
  )

  mutual
    -- what is seen of what a value spells is the effect of the value
    tells : {p : P} {value : Value p} {ts : List T} → SpelledAs g Value making p value ts → Tells (p ∷ []) ts (effect p value)
    tells {p = p} {ts = ts} (of_token t taken is e) =
        subst (λ v. Tells (p ∷ []) ts (effect p v)) (sym is)
        (subst (λ x. Tells (p ∷ []) x (effect p (making.of_token p t taken))) (sym e) (tells_token p t taken))
    tells {p = p} {ts = ts} (of_row choice values made is) =
        subst (λ v. Tells (p ∷ []) ts (effect p v)) (sym is) (tells_part p choice values ts (tells_row made))

    -- what is seen of what a row's values spell is the effect of the values
    tells_row : {row : List P} {values : RowValues Value row} {ts : List T} → SpelledRow g Value making row values ts →
        Tells row ts (after_members Value effect row values)
    tells_row none = tells_nothing
    tells_row {row = p ∷ row} {values = values} (member us ts first later e) =
        subst (λ x. Tells (p ∷ row) x (after_members Value effect (p ∷ row) values)) (sym e)
        (tells_joined p row values.0 values.1 us ts (tells first) (tells_row later))

  -- what is seen of a text is the effect of its value
  pub seen_value : (start : P) (before after : S) (ts : List T) (value : Value start) → IsAccepted g watcher start before ts after →
      SpelledAs g Value making start value ts → after ≡ effect start value before
  unfolding Tells
  seen_value start before after ts value accepted spelled =
      let (takers, clean) = accepted.clean in
      let (others, taken, told) = tells spelled in
      let same = one_taking_of_text g plan law start true true ts takers others clean.taken taken in
      told before after (subst (λ ps. Sees watcher before ps ts after) same clean.seen)
