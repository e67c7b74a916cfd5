-- Tokens that spell parts of the grammar among all tokens of a text.
use Rattle.std.specs.Prelude.{◌≡◌, ℕ, List, [], ◌∷◌, ◌++◌, map, IsTrue}
use Rattle.std.specs.List.{AllByRecursion}
use Rattle.std.proofs.Common.{refl, sym, subst}
use Rattle.std.proofs.lemmas.List.{append-nil, map-append}
use Rattle.text_core.specs.Names.{Text}
use Rattle.text_core.specs.Lists.{IsAmong}
use Rattle.text_core.proofs.Laws.{each_front, each_back}
use Rattle.token_grammar.specs.Making.{Choice, element, RowValues}
use Rattle.token_grammar.specs.Productions.{made_at}
use Rattle.token_grammar.specs.SpelledAs.{SpelledAs, SpelledRow}
use Rattle.token_grammar.specs.SpelledAs.SpelledAs.{of_token, of_row}
use Rattle.token_grammar.specs.SpelledAs.SpelledRow.{none, member}
use Rattle.tptp_lexer.specs.Tokens.{Token as LexToken}
use Rattle.tptp_lexer.proofs.Laws.{Any, Gives, nothing, seen, followed}
use Rattle.model_text.specs.declared.mark.Mark as Mark
use Rattle.model_text.specs.declared.part.ModelPart as ModelPart
use Rattle.model_text.specs.declared.part.ModelPart.TheVariants.{Taken, Row}
use Rattle.model_text.specs.declared.part.Taker as Taker
use Rattle.model_text.specs.declared.part.Taker.TheVariants as taker
use Rattle.model_text.specs.declared.part.Rule as Rule
use Rattle.model_text.specs.Words.{names_in}
use Rattle.model_text.specs.Marks.{mark_among}
use Rattle.model_text.specs.Grammar.{models, taker_takes, rows}
use Rattle.model_text.specs.Values.{RuleValue, Value, makers, number_of, name_in, model_making}

-- the tokens are among all tokens
abbrev pub AreAmong : List LexToken → List LexToken → Type 0
AreAmong all us = AllByRecursion (λ t. IsAmong t all) us

-- what a part is to mean: a name, a number, or the value of a rule
abbrev pub Meaning : ModelPart.ModelPart → Type 0
Meaning (Taken taker.Constant) = Text
Meaning (Taken taker.Predicate) = Text
Meaning (Taken taker.Size) = ℕ
Meaning (Taken taker.Element) = ℕ
Meaning (Taken taker.Argument) = ℕ
Meaning (Taken _) = Unit {0}
Meaning (Row r) = RuleValue r

-- the value of a part means it, among all tokens
abbrev pub Means : List LexToken → (p : ModelPart.ModelPart) → Value p → Meaning p → Type 0
Means all (Taken taker.Constant) m name = name_in (names_in all) m ≡ name
Means all (Taken taker.Predicate) m name = name_in (names_in all) m ≡ name
Means all (Taken taker.Size) m number = number_of m ≡ number
Means all (Taken taker.Element) m number = number_of m ≡ number
Means all (Taken taker.Argument) m number = number_of m ≡ number
Means all (Taken _) m means = Unit {0}
Means all (Row r) value means = value ≡ means

-- the same of the members of a row
abbrev pub Meanings : List ModelPart.ModelPart → Type 0
Meanings [] = Unit {0}
Meanings (p ∷ row) = Meaning p × Meanings row

-- each value of a row means what it is to mean
abbrev pub EachMeans : List LexToken → (row : List ModelPart.ModelPart) → RowValues Value row → Meanings row → Type 0
EachMeans all [] values ms = Unit {0}
EachMeans all (p ∷ row) values ms = Means all p values.0 ms.0 × EachMeans all row values.1 ms.1

-- the marks of tokens among all tokens
abbrev pub marks_among : List LexToken → List LexToken → List Mark.Mark
marks_among all us = map (mark_among (names_in all)) us

-- the tokens spell a value of the part that means this, wherever they stand
pub record Spells (p : ModelPart.ModelPart) (m : Meaning p) (us : List LexToken) : Type 0 where
  pub at : (all : List LexToken) → AreAmong all us →
      (value : Value p) × SpelledAs models Value (model_making all) p value (marks_among all us) × Means all p value m

-- the same of the members of a row
pub record SpellsRow (row : List ModelPart.ModelPart) (ms : Meanings row) (us : List LexToken) : Type 0 where
  pub at : (all : List LexToken) → AreAmong all us →
      (values : RowValues Value row) × SpelledRow models Value (model_making all) row values (marks_among all us) ×
      EachMeans all row values ms

-- no tokens spell no members
no_members : SpellsRow [] tt []
no_members = record { at = λ all stand. (tt, none, tt) }

-- the first member and the others
member_first : (p : ModelPart.ModelPart) (row : List ModelPart.ModelPart) (m : Meaning p) (ms : Meanings row) (us vs ts : List LexToken) →
    Spells p m us → SpellsRow row ms vs → ts ≡ us ++ vs → SpellsRow (p ∷ row) (m, ms) ts
member_first p row m ms us vs ts first later e = subst (SpellsRow (p ∷ row) (m, ms)) (sym e) (record {
  at = λ all stand.
      let (value, spelled, means) = first.at all (each_front (λ t. IsAmong t all) us vs stand) in
      let (values, others, mean) = later.at all (each_back (λ t. IsAmong t all) us vs stand) in (
        (value, values),
        member (marks_among all us) (marks_among all vs) spelled others (map-append (mark_among (names_in all)) us vs),
        (means, mean),
      );
})

-- what the members of a row spell, its rule spells
rule_spelled : (r : Rule.Rule) (choice : Choice (rows r)) (ms : Meanings (element (rows r) choice)) (m : RuleValue r) (us : List LexToken) →
    ((all : List LexToken) (values : RowValues Value (element (rows r) choice)) → EachMeans all (element (rows r) choice) values ms →
    made_at Value (rows r) (makers (names_in all) (Row r)) choice values ≡ m) →
    SpellsRow (element (rows r) choice) ms us → Spells (Row r) m us
rule_spelled r choice ms m us made members = record {
  at = λ all stand.
      let (values, spelled, mean) = members.at all stand in (
        made_at Value (rows r) (makers (names_in all) (Row r)) choice values,
        of_row choice values spelled refl,
        made all values mean,
      );
}

-- a token that the part takes
pub token_spelled : (by : Taker.Taker) (m : Meaning (Taken by)) (t : LexToken) →
    ((names : List Text) → IsTrue (taker_takes by (mark_among names t))) →
    ((all : List LexToken) → IsAmong t all → Means all (Taken by) (mark_among (names_in all) t) m) → Spells (Taken by) m (t ∷ [])
token_spelled by m t taken means = record {
  at = λ all stand.
      let names : List Text = names_in all in
      (mark_among names t, of_token (mark_among names t) (taken names) refl refl, means all stand.0);
}

-- the same text, put together otherwise
pub as_text : {may : Text → Type 0} {x y : Text} {S : List LexToken → Type 0} → x ≡ y → Gives may x S → Gives may y S
as_text {may = may} {S = S} e p = subst (λ t. Gives may t S) e p

-- no members
pub none_piece : Gives Any [] (SpellsRow [] tt)
none_piece = seen (λ ts s. subst (SpellsRow [] tt) (sym s) no_members) nothing

-- a member and further ones
pub and_then : {may fewer : Text → Type 0} {x y : Text} {p : ModelPart.ModelPart} {row : List ModelPart.ModelPart} (m : Meaning p) (ms : Meanings row) →
    Gives may x (Spells p m) → Gives fewer y (SpellsRow row ms) → ((rest : Text) → fewer rest → may (y ++ rest)) →
    Gives fewer (x ++ y) (SpellsRow (p ∷ row) (m, ms))
and_then {p = p} {row = row} m ms first later follows =
    seen (λ ts s. member_first p row m ms s.0 s.1 ts s.2 s.3 s.4) (followed first later follows)

-- the last member
pub and_last : {may : Text → Type 0} {x : Text} {p : ModelPart.ModelPart} (m : Meaning p) → Gives may x (Spells p m) →
    Gives may x (SpellsRow (p ∷ []) (m, tt))
and_last {p = p} m last = seen (λ ts s. member_first p [] m tt ts [] ts s no_members (sym (append-nil ts))) last

-- a rule, by the members of one of its rows
pub rule_piece : {may : Text → Type 0} {x : Text} (r : Rule.Rule) (choice : Choice (rows r)) (ms : Meanings (element (rows r) choice)) (m : RuleValue r) →
    ((all : List LexToken) (values : RowValues Value (element (rows r) choice)) → EachMeans all (element (rows r) choice) values ms →
    made_at Value (rows r) (makers (names_in all) (Row r)) choice values ≡ m) →
    Gives may x (SpellsRow (element (rows r) choice) ms) → Gives may x (Spells (Row r) m)
rule_piece r choice ms m made p = seen (λ ts s. rule_spelled r choice ms m ts made s) p
