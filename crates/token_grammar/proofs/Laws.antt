-- What the laws of a grammar, of its watcher and of its builder are made of, in the crates above.
use Rattle.std.proofs.Common.{◌≡◌, ◌⊎◌, refl, inl, inr, List, [], ◌∷◌}
use Rattle.std.specs.Prelude.{IsTrue, Result, Ok, Err}
use Rattle.token_grammar.specs.Grammar.{Grammar}
use Rattle.token_grammar.specs.Watch.{IsDecided, watcher_of}
use Rattle.token_grammar.specs.Making.{Choice, element, RowValues}
use Rattle.token_grammar.specs.Productions.{Makers, made_at, making_by}
use Rattle.token_grammar.specs.Building.{IsBuilding, RowLaws, after_row}
pub use Rattle.token_grammar.proofs.Spelling.{joined, spelled_taken, taken_spelled}
pub use Rattle.token_grammar.proofs.Agreement.{answers_agree, one_taking_of_text, taken_length}
pub use Rattle.token_grammar.proofs.Answered.{tokens_answered}
pub use Rattle.token_grammar.proofs.OfValues.{part_value, value_spelled}
pub use Rattle.token_grammar.proofs.OneValue.{one_value}
pub use Rattle.token_grammar.proofs.Telling.{seen_value}
pub use Rattle.token_grammar.proofs.Refused.{refusals_agree, accepted_not_refused}
pub use Rattle.token_grammar.proofs.Folding.{Shape, Fits, EachLeads, text_holds}
pub use Rattle.token_grammar.proofs.Folding.Shape.{one, many}
pub use Rattle.token_grammar.proofs.Becoming.{to, kept}
pub use Rattle.token_grammar.proofs.Seeing.{sees_both, sees_apart, sees_keep}

-- a result is a value or an error
result_is : {X E : Type 0} (result : Result X E) → ((x : X) × result ≡ Ok x) ⊎ ((e : E) × result ≡ Err e)
result_is (Ok x) = inl (x, refl)
result_is (Err e) = inr (e, refl)

-- a watcher that computes does one thing at each token
pub computed_decided : {P T S F : Type 0} (look : S → P → T → Result S F) → IsDecided (watcher_of look)
computed_decided look = record {
  does = λ s p t. result_is (look s p t);
  one_state = λ s p t a b h k. cc;
  one_fault = λ s p t e f h k. cc;
  apart = λ s p t a f h k. cc;
}

-- a builder's law from the law of its tokens and one for each row
pub building_by : {P T B : Type 0} (g : Grammar P T) (Value : P → Type 0) (made_of : (p : P) (t : T) → IsTrue (g.takes p t) → Value p)
    (makers : (p : P) → Makers Value (Value p) (g.alternatives p)) (takes : P → T → B → B) (passes : P → B → B)
    (effect : (p : P) → Value p → B → B) →
    ((p : P) (t : T) (taken : IsTrue (g.takes p t)) (b : B) → takes p t b ≡ effect p (made_of p t taken) b) →
    ((p : P) → RowLaws Value effect passes p (g.alternatives p) (makers p)) →
    IsBuilding g Value (making_by g Value made_of makers) takes passes effect
building_by {P = P} {B = B} g Value made_of makers takes passes effect tokens rows = record {
  token = tokens;
  row = λ p choice values b. at_row p (g.alternatives p) (makers p) (rows p) choice values b;
}
  where
    at_row : (p : P) (all : List (List P)) (each : Makers Value (Value p) all) → RowLaws Value effect passes p all each →
        (choice : Choice all) (values : RowValues Value (element all choice)) (b : B) →
        after_row Value effect passes p (element all choice) values b ≡ effect p (made_at Value all each choice values) b
    at_row p [] each laws choice values b = absurd choice
    at_row p (row ∷ all) each laws (inl here) values b = laws.0 values b
    at_row p (row ∷ all) each laws (inr choice) values b = at_row p all each.1 laws.1 choice values b
