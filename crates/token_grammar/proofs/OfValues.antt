-- Each text has a value, and what a value spells is a text.
use Rattle.std.proofs.Common.{◌≡◌, refl, sym, ◌∙◌, subst, inl, inr, List, [], ◌∷◌, append-nil}
use Rattle.text_core.specs.Lists.{IsAmong}
use Rattle.token_grammar.specs.Grammar.{Grammar, Spelled}
use Rattle.token_grammar.specs.Making.{Choice, element, RowValues, Making}
use Rattle.token_grammar.specs.SpelledAs.{SpelledAs, SpelledRow}
use Rattle.token_grammar.specs.SpelledAs.SpelledAs.{of_token, of_row}
use Rattle.token_grammar.specs.SpelledAs.SpelledRow.{none, member}
use Rattle.token_grammar.proofs.Spelling.{InTwo, spelled_joined}

-- a member of a list is the element of a choice
pub choice_among : {A : Type 0} (list : List A) (a : A) → IsAmong a list → (choice : Choice list) × (element list choice ≡ a)
choice_among [] a h = absurd h
choice_among (b ∷ list) a (inl e) = (inl tt, e)
choice_among (b ∷ list) a (inr h) = let (choice, e) = choice_among list a h in (inr choice, e)

-- the element of a choice is a member of the list
pub element_among : {A : Type 0} (list : List A) (choice : Choice list) → IsAmong (element list choice) list
element_among [] choice = choice
element_among (a ∷ list) (inl here) = inl refl
element_among (a ∷ list) (inr choice) = inr (element_among list choice)

module _ {P T : Type 0} (g : Grammar P T) (Value : P → Type 0) (making : Making g Value) where
  -- a row's first member and the others, each with what they spell
  pub first_spelled : (p : P) (row : List P) (values : RowValues Value (p ∷ row)) (all : List T) → SpelledRow g Value making (p ∷ row) values all →
      InTwo (SpelledAs g Value making p values.0) (SpelledRow g Value making row values.1) all
  first_spelled p row values all (member us ts first later e) =
      record { front = us; back = ts; split = e; first = first; second = later }

  -- what a row of one member spells its value spells
  pub spelled_alone : (p : P) (values : RowValues Value (p ∷ [])) (ts : List T) → SpelledRow g Value making (p ∷ []) values ts →
      SpelledAs g Value making p values.0 ts
  spelled_alone p values ts (member us [] first none e) = subst (SpelledAs g Value making p values.0) (sym (e ∙ append-nil us)) first
  spelled_alone p values ts (member us (t ∷ rest) first later e) = elim later [ ]

  -- what a part spells as one of its alternatives has a value
  made_of : (p : P) (row : List P) (ts : List T) → IsAmong row (g.alternatives p) →
      (values : RowValues Value row) → SpelledRow g Value making row values ts → (value : Value p) × SpelledAs g Value making p value ts
  made_of p row ts among values spelled =
      let (choice, same) = choice_among (g.alternatives p) row among in
      subst (λ r. (values : RowValues Value r) → SpelledRow g Value making r values ts → (value : Value p) × SpelledAs g Value making p value ts)
      same (λ chosen made. (making.of_row p choice chosen, of_row choice chosen made refl)) values spelled

  -- what a row spells has a value for each member
  row_values : {row : List P} {ts : List T} → Spelled g row ts → (values : RowValues Value row) × SpelledRow g Value making row values ts
  row_values Spelled.none = (tt, none)
  row_values (Spelled.token {p = p} {t = t} {ts = ts} taken rest) =
      let (values, spelled) = row_values rest in
      ((making.of_token p t taken, values), member (t ∷ []) ts (of_token t taken refl refl) spelled refl)
  row_values (Spelled.part {p = p} alternative us ts a first rest e) =
      let (inner, front) = row_values first in
      let (value, whole) = made_of p alternative us a inner front in
      let (values, back) = row_values rest in
      ((value, values), member us ts whole back e)

  -- what a part spells has a value
  pub part_value : (p : P) (ts : List T) → Spelled g (p ∷ []) ts → (value : Value p) × SpelledAs g Value making p value ts
  part_value p ts spelled = let (values, s) = row_values spelled in (values.0, spelled_alone p values ts s)

  mutual
    -- what a value spells is spelled by its part
    pub value_spelled : {p : P} {value : Value p} {ts : List T} → SpelledAs g Value making p value ts → Spelled g (p ∷ []) ts
    value_spelled {p = p} (of_token t taken is e) = subst (Spelled g (p ∷ [])) (sym e) (Spelled.token taken Spelled.none)
    value_spelled {p = p} {ts = ts} (of_row choice values made is) =
        Spelled.part (element (g.alternatives p) choice) ts [] (element_among (g.alternatives p) choice) (row_spelled made) Spelled.none
        (sym (append-nil ts))

    -- what a row's values spell is spelled by the row
    pub row_spelled : {row : List P} {values : RowValues Value row} {ts : List T} → SpelledRow g Value making row values ts → Spelled g row ts
    row_spelled none = Spelled.none
    row_spelled {row = p ∷ row} (member us ts first later e) =
        subst (Spelled g (p ∷ row)) (sym e) (spelled_joined g (value_spelled first) (row_spelled later))
