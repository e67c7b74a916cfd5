-- Tokens that spell parts of the grammar wherever they stand among all tokens of a text.
use Rattle.std.specs.Prelude.{◌≡◌, ℕ, suc, ◌+◌, List, [], ◌∷◌, ◌++◌, length, slice_get, Some, IsTrue}
use Rattle.std.proofs.Common.{refl, sym, ◌∙◌, ap, subst, arith}
use Rattle.text_core.specs.Names.{Text}
use Rattle.token_grammar.specs.Making.{Choice, element, RowValues}
use Rattle.token_grammar.specs.Productions.{made_at}
use Rattle.token_grammar.specs.SpelledAs.{SpelledAs, SpelledRow}
use Rattle.token_grammar.specs.SpelledAs.SpelledAs.{of_token, of_row}
use Rattle.token_grammar.specs.SpelledAs.SpelledRow.{none, member}
use Rattle.tptp_lexer.specs.Tokens.{Token as LexToken}
use Rattle.proof_text.specs.declared.mark.Token.{Token}
use Rattle.proof_text.specs.declared.part.TextPart as TextPart
use Rattle.proof_text.specs.declared.part.TextPart.TheVariants.{Taken, Row}
use Rattle.proof_text.specs.declared.part.Taker as Taker
use Rattle.proof_text.specs.declared.part.Taker.TheVariants as taker
use Rattle.proof_text.specs.declared.part.Rule as Rule
use Rattle.proof_text.specs.Marks.{mark_of, marked_from}
use Rattle.proof_text.specs.Grammar.{proof_texts, mark_taken, rows}
use Rattle.proof_text.specs.Values.{RuleValue, Value, makers, name_in, number_in, proof_text_making}
use Rattle.proof_text.proofs.Marked.{seen_as}

-- the tokens stand among all tokens from this number on
abbrev pub StandAt : List LexToken → ℕ → List LexToken → Type 0
StandAt all n [] = Unit {0}
StandAt all n (t ∷ us) = (slice_get all n ≡ Some t) × StandAt all (n + 1) us

-- the first of tokens that stand there
stand_front : (all : List LexToken) (n : ℕ) (us vs : List LexToken) → StandAt all n (us ++ vs) → StandAt all n us
stand_front all n [] vs h = tt
stand_front all n (t ∷ us) vs h = (h.0, stand_front all (n + 1) us vs h.1)

-- the others of tokens that stand there
stand_back : (all : List LexToken) (n : ℕ) (us vs : List LexToken) → StandAt all n (us ++ vs) → StandAt all (n + length us) vs
stand_back all n [] vs h = subst (λ m. StandAt all m vs) (let same : n ≡ n + 0 = omega arith in same) h
stand_back all n (t ∷ us) vs h =
    subst (λ m. StandAt all m vs) (let same : (n + 1) + length us ≡ n + suc (length us) = omega arith in same)
    (stand_back all (n + 1) us vs h.1)

-- the marks of two lists of tokens
marked_append : (n : ℕ) (us vs : List LexToken) → marked_from n (us ++ vs) ≡ marked_from n us ++ marked_from (n + length us) vs
marked_append n [] vs = ap (λ (m : ℕ). marked_from m vs) (let same : n ≡ n + 0 = omega arith in same)
marked_append n (t ∷ us) vs =
    let same : (n + 1) + length us ≡ n + suc (length us) = omega arith in
    ap (λ (ms : List Token). seen_as n t ∷ ms)
    (marked_append (n + 1) us vs ∙ ap (λ (m : ℕ). marked_from (n + 1) us ++ marked_from m vs) same)

-- what a part is to mean: a name, a number, or the value of a rule
abbrev pub Meaning : TextPart.TextPart → Type 0
Meaning (Taken (taker.Name naming)) = Text
Meaning (Taken (taker.Number counting)) = ℕ
Meaning (Taken _) = Unit {0}
Meaning (Row r) = RuleValue r

-- the value of a part means it, among all tokens
abbrev pub Means : List LexToken → (p : TextPart.TextPart) → Value p → Meaning p → Type 0
Means all (Taken (taker.Name naming)) t name = name_in all t ≡ name
Means all (Taken (taker.Number counting)) t number = number_in t ≡ number
Means all (Taken _) t m = Unit {0}
Means all (Row r) value m = value ≡ m

-- the same of the members of a row
abbrev pub Meanings : List TextPart.TextPart → Type 0
Meanings [] = Unit {0}
Meanings (p ∷ row) = Meaning p × Meanings row

-- each value of a row means what it is to mean
abbrev pub EachMeans : List LexToken → (row : List TextPart.TextPart) → RowValues Value row → Meanings row → Type 0
EachMeans all [] values ms = Unit {0}
EachMeans all (p ∷ row) values ms = Means all p values.0 ms.0 × EachMeans all row values.1 ms.1

-- the tokens spell a value of the part that means this, wherever they stand
pub record Spells (p : TextPart.TextPart) (m : Meaning p) (us : List LexToken) : Type 0 where
  pub at : (all : List LexToken) (n : ℕ) → StandAt all n us →
      (value : Value p) × SpelledAs proof_texts Value (proof_text_making all) p value (marked_from n us) × Means all p value m

-- the same of the members of a row
pub record SpellsRow (row : List TextPart.TextPart) (ms : Meanings row) (us : List LexToken) : Type 0 where
  pub at : (all : List LexToken) (n : ℕ) → StandAt all n us →
      (values : RowValues Value row) × SpelledRow proof_texts Value (proof_text_making all) row values (marked_from n us) ×
      EachMeans all row values ms

-- no tokens spell no members
pub no_members : SpellsRow [] tt []
no_members = record { at = λ all n stand. (tt, none, tt) }

-- the first member and the others
pub member_first : (p : TextPart.TextPart) (row : List TextPart.TextPart) (m : Meaning p) (ms : Meanings row) (us vs ts : List LexToken) →
    Spells p m us → SpellsRow row ms vs → ts ≡ us ++ vs → SpellsRow (p ∷ row) (m, ms) ts
member_first p row m ms us vs ts first later e = subst (SpellsRow (p ∷ row) (m, ms)) (sym e) (record {
  at = λ all n stand.
      let (value, spelled, means) = first.at all n (stand_front all n us vs stand) in
      let (values, others, mean) = later.at all (n + length us) (stand_back all n us vs stand) in (
        (value, values),
        member (marked_from n us) (marked_from (n + length us) vs) spelled others (marked_append n us vs),
        (means, mean),
      );
})

-- what the members of a row spell, its rule spells
pub rule_spelled : (r : Rule.Rule) (choice : Choice (rows r)) (ms : Meanings (element (rows r) choice)) (m : RuleValue r) (us : List LexToken) →
    ((all : List LexToken) (values : RowValues Value (element (rows r) choice)) → EachMeans all (element (rows r) choice) values ms →
    made_at Value (rows r) (makers all (Row r)) choice values ≡ m) →
    SpellsRow (element (rows r) choice) ms us → Spells (Row r) m us
rule_spelled r choice ms m us made members = record {
  at = λ all n stand.
      let (values, spelled, mean) = members.at all n stand in (
        made_at Value (rows r) (makers all (Row r)) choice values,
        of_row choice values spelled refl,
        made all values mean,
      );
}

-- a token that the part takes
pub token_spelled : (by : Taker.Taker) (m : Meaning (Taken by)) (t : LexToken) → IsTrue (mark_taken by (mark_of t.kind t.text)) →
    ((all : List LexToken) (n : ℕ) → slice_get all n ≡ Some t → Means all (Taken by) (seen_as n t) m) → Spells (Taken by) m (t ∷ [])
token_spelled by m t taken means = record {
  at = λ all n stand. (seen_as n t, of_token (seen_as n t) taken refl refl, means all n stand.0);
}
