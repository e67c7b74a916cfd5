-- What the builder does over the tokens of a row is the effect of the values that they spell.
use Rattle.std.proofs.Common.{◌≡◌, refl, sym, ◌∙◌, ap, subst, List, [], ◌∷◌, ◌++◌, append_assoc}
use Rattle.std.specs.Prelude.{IsTrue}
use Rattle.text_core.specs.Lists.{IsAmong}
use Rattle.token_grammar.specs.Grammar.{Grammar}
use Rattle.token_grammar.specs.Making.{RowValues, Making}
use Rattle.token_grammar.specs.SpelledAs.{SpelledAs, SpelledRow}
use Rattle.token_grammar.specs.SpelledAs.SpelledAs.{of_token, of_row}
use Rattle.token_grammar.specs.SpelledAs.SpelledRow.{none, member}
use Rattle.token_grammar.specs.Building.{IsBuilding, after_members, after_row}
use Rattle.token_grammar.specs.Acting.{Acted}
use Rattle.token_grammar.proofs.OfValues.{choice_among, spelled_alone}
use Rattle.token_grammar.specs.Acting.Acted.{ended, token, passed, replaced}

module _ {P T B : Type 0} (g : Grammar P T) (Value : P → Type 0) (making : Making g Value) (takes : P → T → B → B) (passes : P → B → B)
    (effect : (p : P) → Value p → B → B) (building : IsBuilding g Value making takes passes effect) where
  -- values of joined rows, split where the rows are joined
  record SplitValues (front back : List P) (values : RowValues Value (front ++ back)) (ts : List T) : Type 0 where
    firsts : RowValues Value front
    seconds : RowValues Value back
    us : List T
    vs : List T
    first : SpelledRow g Value making front firsts us
    second : SpelledRow g Value making back seconds vs
    split : ts ≡ us ++ vs
    after : (b : B) → after_members Value effect (front ++ back) values b ≡
        after_members Value effect back seconds (after_members Value effect front firsts b)

  -- the values of joined rows are split where the rows are joined
  split_values : (front back : List P) (values : RowValues Value (front ++ back)) (ts : List T) →
      SpelledRow g Value making (front ++ back) values ts → SplitValues front back values ts
  split_values [] back values ts spelled =
      record { firsts = tt; seconds = values; us = []; vs = ts; first = none; second = spelled; split = refl; after = λ b. refl }
  split_values (p ∷ front) back values ts (member us rest value later e) =
      let it = split_values front back values.1 rest later in record {
        firsts = (values.0, it.firsts);
        seconds = it.seconds;
        us = us ++ it.us;
        vs = it.vs;
        first = member us it.us value it.first refl;
        second = it.second;
        split = (e ∙ ap (λ x. us ++ x) it.split) ∙ sym (append_assoc us it.us it.vs);
        after = λ b. it.after (effect p values.0 b);
      }

  -- the value of a part that stands for a row
  BuiltPart : (p : P) → List T → B → B → Type 0
  BuiltPart p ts before after = (value : Value p) × SpelledAs g Value making p value ts × (after ≡ effect p value before)

  -- a part that stands for a row has the value made of the values of the row
  built_part : (p : P) (row : List P) → IsAmong row (g.alternatives p) → (values : RowValues Value row) (ts : List T) (before : B) →
      SpelledRow g Value making row values ts → BuiltPart p ts before (after_row Value effect passes p row values before)
  unfolding BuiltPart
  built_part p row among values ts before spelled =
      let (choice, same) = choice_among (g.alternatives p) row among in
      subst (λ r. (values : RowValues Value r) → SpelledRow g Value making r values ts →
      (value : Value p) × SpelledAs g Value making p value ts × (after_row Value effect passes p r values before ≡ effect p value before))
      same (λ chosen made. (making.of_row p choice chosen, of_row choice chosen made refl, building.row p choice chosen before))
      values spelled

  -- the values of a row's members, where the row has done this over the tokens
  BuiltRow : List P → B → List T → B → Type 0
  BuiltRow row before ts after = (values : RowValues Value row) × SpelledRow g Value making row values ts ×
      (after ≡ after_members Value effect row values before)

  -- the value of a part in front of those of a row
  built_more : (p : P) (row : List P) (us ts : List T) (before between after : B) → BuiltPart p us before between →
      BuiltRow row between ts after → BuiltRow (p ∷ row) before (us ++ ts) after
  unfolding BuiltPart BuiltRow
  built_more p row us ts before between after (value, spelled, e) (values, later, f) = (
    (value, values),
    member us ts spelled later refl,
    f ∙ ap (after_members Value effect row values) e,
  )

  -- a part that takes a token has the value made of it
  built_token : (p : P) (t : T) (before : B) → IsTrue (g.takes p t) → BuiltPart p (t ∷ []) before (takes p t before)
  unfolding BuiltPart
  built_token p t before taken = (making.of_token p t taken, of_token t taken refl refl, building.token p t taken before)

  -- a part that was replaced by a row with members has a value
  built_replaced : (p q : P) (rest row : List P) (ts : List T) (before after : B) → IsAmong (q ∷ rest) (g.alternatives p) →
      BuiltRow (q ∷ (rest ++ row)) before ts after → BuiltRow (p ∷ row) before ts after
  unfolding BuiltRow
  built_replaced p q rest row ts before after among (values, spelled, e) =
      let it = split_values (q ∷ rest) row values ts spelled in
      let part = built_part p (q ∷ rest) among it.firsts it.us before it.first in
      subst (λ x. BuiltRow (p ∷ row) before x after) (sym it.split)
      (built_more p row it.us it.vs before (after_members Value effect (q ∷ rest) it.firsts before) after part
      (it.seconds, it.second, e ∙ it.after before))

  -- what was done over tokens is the effect of the values of a row
  built_row : {row : List P} {ts : List T} {before after : B} → Acted g takes passes row before ts after → BuiltRow row before ts after
  unfolding BuiltRow
  built_row (ended e) = (tt, none, e)
  built_row (token {p = p} {row = row} {t = t} {ts = ts} {before = before} {after = after} taken rest) =
      built_more p row (t ∷ []) ts before (takes p t before) after (built_token p t before taken) (built_row rest)
  built_row (passed {p = p} {row = row} {ts = ts} {before = before} {after = after} among rest) =
      built_more p row [] ts before (passes p before) after (built_part p [] among tt [] before none) (built_row rest)
  built_row (replaced {p = p} {row = row} {ts = ts} {before = before} {after = after} q rest among inner) =
      built_replaced p q rest row ts before after among (built_row inner)

  -- what is done over the tokens of a part is the effect of the value that they spell
  pub built : (p : P) (ts : List T) (before after : B) → Acted g takes passes (p ∷ []) before ts after →
      (value : Value p) × SpelledAs g Value making p value ts × (after ≡ effect p value before)
  unfolding BuiltRow
  built p ts before after acted =
      let (values, spelled, e) = built_row acted in
      (values.0, spelled_alone g Value making p values ts spelled, e)
