-- What holds of a value follows from what holds of its tokens, where it holds of what each row makes.
use Rattle.std.specs.Prelude.{List, [], ◌∷◌, IsTrue}
use Rattle.std.specs.List.{AllByRecursion}
use Rattle.std.proofs.Common.{sym, subst, inl, inr}
use Rattle.text_core.proofs.Laws.{each_front, each_back}
use Rattle.token_grammar.specs.Grammar.{Grammar}
use Rattle.token_grammar.specs.Making.{Choice, element, RowValues}
use Rattle.token_grammar.specs.Productions.{Makers, made_at, making_by}
use Rattle.token_grammar.specs.SpelledAs.{SpelledAs, SpelledRow}
use Rattle.token_grammar.specs.SpelledAs.SpelledAs.{of_token, of_row}
use Rattle.token_grammar.specs.SpelledAs.SpelledRow.{none, member}

-- it holds of the value of each member of a row
abbrev pub EachHolds : {P : Type 0} (Value : P → Type 0) → ((p : P) → Value p → Type 0) → (row : List P) → RowValues Value row → Type 0
EachHolds Value Holds [] values = Unit {0}
EachHolds Value Holds (p ∷ row) values = Holds p values.0 × EachHolds Value Holds row values.1

-- it holds of what each row makes of values of which it holds
abbrev pub RowsHold : {P : Type 0} (Value : P → Type 0) → ((p : P) → Value p → Type 0) → (p : P) →
    (rows : List (List P)) → Makers Value (Value p) rows → Type 0
RowsHold Value Holds p [] makers = Unit {0}
RowsHold Value Holds p (row ∷ rows) makers =
    ((values : RowValues Value row) → EachHolds Value Holds row values → Holds p (makers.0 values)) ×
    RowsHold Value Holds p rows makers.1

-- it holds of what the chosen row makes
made_holds : {P : Type 0} (Value : P → Type 0) (Holds : (p : P) → Value p → Type 0) (p : P) (rows : List (List P))
    (makers : Makers Value (Value p) rows) → RowsHold Value Holds p rows makers → (choice : Choice rows)
    (values : RowValues Value (element rows choice)) → EachHolds Value Holds (element rows choice) values →
    Holds p (made_at Value rows makers choice values)
made_holds Value Holds p [] makers laws choice values each = absurd choice
made_holds Value Holds p (row ∷ rows) makers laws (inl here) values each = laws.0 values each
made_holds Value Holds p (row ∷ rows) makers laws (inr choice) values each =
    made_holds Value Holds p rows makers.1 laws.1 choice values each

module _ {P T : Type 0} (g : Grammar P T) (Value : P → Type 0) (made_of : (p : P) (t : T) → IsTrue (g.takes p t) → Value p)
    (makers : (p : P) → Makers Value (Value p) (g.alternatives p)) (Holds : (p : P) → Value p → Type 0) (Proper : T → Type 0)
    (tokens : (p : P) (t : T) (taken : IsTrue (g.takes p t)) → Proper t → Holds p (made_of p t taken))
    (rows : (p : P) → RowsHold Value Holds p (g.alternatives p) (makers p)) where
  mutual
    -- it holds of a value that proper tokens spell
    pub value_holds : {p : P} {value : Value p} {ts : List T} → SpelledAs g Value (making_by g Value made_of makers) p value ts →
        AllByRecursion Proper ts → Holds p value
    value_holds {p = p} (of_token t taken is e) proper =
        subst (Holds p) (sym is) (tokens p t taken (subst (AllByRecursion Proper) e proper).0)
    value_holds {p = p} (of_row choice values made is) proper =
        subst (Holds p) (sym is)
        (made_holds Value Holds p (g.alternatives p) (makers p) (rows p) choice values (row_holds made proper))

    -- each value of a row of proper tokens has its property
    row_holds : {row : List P} {values : RowValues Value row} {ts : List T} →
        SpelledRow g Value (making_by g Value made_of makers) row values ts → AllByRecursion Proper ts → EachHolds Value Holds row values
    row_holds none proper = tt
    row_holds (member us ts first later e) proper =
        let both = subst (AllByRecursion Proper) e proper in
        (value_holds first (each_front Proper us ts both), row_holds later (each_back Proper us ts both))
