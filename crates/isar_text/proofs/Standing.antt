-- Tokens that spell parts of the grammar wherever they stand among all tokens of a text.
use Rattle.std.specs.Prelude.{◌≡◌, ℕ, suc, ◌+◌, List, [], ◌∷◌, ◌++◌, length, slice_get, Some, IsTrue}
use Rattle.std.proofs.Common.{refl, sym, ◌∙◌, ap, subst, arith}
use Rattle.text_core.specs.Names.{Text}
use Rattle.token_grammar.specs.Making.{Choice, element, RowValues}
use Rattle.token_grammar.specs.Productions.{made_at}
use Rattle.token_grammar.specs.SpelledAs.{SpelledAs, SpelledRow}
use Rattle.token_grammar.specs.SpelledAs.SpelledAs.{of_token, of_row}
use Rattle.token_grammar.specs.SpelledAs.SpelledRow.{none, member}
use Rattle.coherent_form.specs.Tasks.{CitedTask}
use Rattle.coherent_form.specs.declared.citation.Citation.{Citation}
use Rattle.isar_text.specs.declared.mark.Token.{Token as Seen}
use Rattle.isar_text.specs.declared.part.IsarPart as IsarPart
use Rattle.isar_text.specs.declared.part.IsarPart.TheVariants.{Taken, Row}
use Rattle.isar_text.specs.declared.part.Taker as Taker
use Rattle.isar_text.specs.declared.part.Taker.TheVariants as taker
use Rattle.isar_text.specs.declared.part.Rule as Rule
use Rattle.isar_text.specs.Grammar.{isar_rests, mark_taken, rows}
use Rattle.isar_text.specs.Marks.{mark_of, marked_from}
use Rattle.isar_text.specs.Tokens.{Token}
use Rattle.isar_text.specs.Values.{Lexed, RuleValue, Value, makers, name_in, number_in, cite_in, isar_making}

-- the tokens stand among all tokens from this number on
abbrev pub StandAt : List Token → ℕ → List Token → Type 0
StandAt all n [] = Unit {0}
StandAt all n (t ∷ us) = (slice_get all n ≡ Some t) × StandAt all (n + 1) us

-- the first of tokens that stand there
stand_front : (all : List Token) (n : ℕ) (us vs : List Token) → StandAt all n (us ++ vs) → StandAt all n us
stand_front all n [] vs h = tt
stand_front all n (t ∷ us) vs h = (h.0, stand_front all (n + 1) us vs h.1)

-- the others of tokens that stand there
stand_back : (all : List Token) (n : ℕ) (us vs : List Token) → StandAt all n (us ++ vs) → StandAt all (n + length us) vs
stand_back all n [] vs h = subst (λ m. StandAt all m vs) (let same : n ≡ n + 0 = omega arith in same) h
stand_back all n (t ∷ us) vs h =
    subst (λ m. StandAt all m vs) (let same : (n + 1) + length us ≡ n + suc (length us) = omega arith in same)
    (stand_back all (n + 1) us vs h.1)

-- a token with its number, as the grammar sees it
abbrev pub seen_as : ℕ → ℕ → Token → Seen
seen_as forms n t = record { mark = mark_of forms t.text; number = n }

-- the marks of two lists of tokens
marked_append : (forms n : ℕ) (us vs : List Token) → marked_from forms n (us ++ vs) ≡ marked_from forms n us ++ marked_from forms (n + length us) vs
marked_append forms n [] vs = ap (λ (m : ℕ). marked_from forms m vs) (let same : n ≡ n + 0 = omega arith in same)
marked_append forms n (t ∷ us) vs =
    let same : (n + 1) + length us ≡ n + suc (length us) = omega arith in
    ap (λ (ms : List Seen). seen_as forms n t ∷ ms)
    (marked_append forms (n + 1) us vs ∙ ap (λ (m : ℕ). marked_from forms (n + 1) us ++ marked_from forms m vs) same)

-- what a part is to mean: a name, a citation, a number, or the value of a rule
abbrev pub Meaning : IsarPart.IsarPart → Type 0
Meaning (Taken (taker.Name naming)) = Text
Meaning (Taken taker.Form) = Citation
Meaning (Taken (taker.SplitLine n)) = ℕ
Meaning (Taken taker.Disjunct) = ℕ
Meaning (Taken _) = Unit {0}
Meaning (Row r) = RuleValue r

-- the value of a part means it, among all tokens of a text of the task
abbrev pub Means : Lexed → (p : IsarPart.IsarPart) → Value p → Meaning p → Type 0
Means lexed (Taken (taker.Name naming)) t name = name_in lexed.tokens t ≡ name
Means lexed (Taken taker.Form) t cite = cite_in lexed.task t ≡ cite
Means lexed (Taken (taker.SplitLine n)) t line = number_in t ≡ line
Means lexed (Taken taker.Disjunct) t disjunct = number_in t ≡ disjunct
Means lexed (Taken _) t m = Unit {0}
Means lexed (Row r) value m = value ≡ m

-- the same of the members of a row
abbrev pub Meanings : List IsarPart.IsarPart → Type 0
Meanings [] = Unit {0}
Meanings (p ∷ row) = Meaning p × Meanings row

-- each value of a row means what it is to mean
abbrev pub EachMeans : Lexed → (row : List IsarPart.IsarPart) → RowValues Value row → Meanings row → Type 0
EachMeans lexed [] values ms = Unit {0}
EachMeans lexed (p ∷ row) values ms = Means lexed p values.0 ms.0 × EachMeans lexed row values.1 ms.1

-- the tokens spell a value of the part that means this, wherever they stand
pub record Spells (task : CitedTask) (p : IsarPart.IsarPart) (m : Meaning p) (us : List Token) : Type 0 where
  pub at : (all : List Token) (n : ℕ) → StandAt all n us →
      (value : Value p) ×
      SpelledAs isar_rests Value (isar_making (record { task = task; tokens = all })) p value (marked_from (length task.forms) n us) ×
      Means (record { task = task; tokens = all }) p value m

-- the same of the members of a row
pub record SpellsRow (task : CitedTask) (row : List IsarPart.IsarPart) (ms : Meanings row) (us : List Token) : Type 0 where
  pub at : (all : List Token) (n : ℕ) → StandAt all n us →
      (values : RowValues Value row) ×
      SpelledRow isar_rests Value (isar_making (record { task = task; tokens = all })) row values (marked_from (length task.forms) n us) ×
      EachMeans (record { task = task; tokens = all }) row values ms

-- no tokens spell no members
pub no_members : (task : CitedTask) → SpellsRow task [] tt []
no_members task = record { at = λ all n stand. (tt, none, tt) }

-- the first member and the others
pub member_first : (task : CitedTask) (p : IsarPart.IsarPart) (row : List IsarPart.IsarPart) (m : Meaning p) (ms : Meanings row) (us vs ts : List Token) →
    Spells task p m us → SpellsRow task row ms vs → ts ≡ us ++ vs → SpellsRow task (p ∷ row) (m, ms) ts
member_first task p row m ms us vs ts first later e = subst (SpellsRow task (p ∷ row) (m, ms)) (sym e) (record {
  at = λ all n stand.
      let (value, spelled, means) = first.at all n (stand_front all n us vs stand) in
      let (values, others, mean) = later.at all (n + length us) (stand_back all n us vs stand) in (
        (value, values),
        member (marked_from (length task.forms) n us) (marked_from (length task.forms) (n + length us) vs) spelled others
            (marked_append (length task.forms) n us vs),
        (means, mean),
      );
})

-- what the members of a row spell, its rule spells
pub rule_spelled : (task : CitedTask) (r : Rule.Rule) (choice : Choice (rows r)) (ms : Meanings (element (rows r) choice)) (m : RuleValue r) (us : List Token) →
    ((lexed : Lexed) (values : RowValues Value (element (rows r) choice)) → EachMeans lexed (element (rows r) choice) values ms →
    made_at Value (rows r) (makers lexed (Row r)) choice values ≡ m) →
    SpellsRow task (element (rows r) choice) ms us → Spells task (Row r) m us
rule_spelled task r choice ms m us made members = record {
  at = λ all n stand.
      let (values, spelled, mean) = members.at all n stand in (
        made_at Value (rows r) (makers (record { task = task; tokens = all }) (Row r)) choice values,
        of_row choice values spelled refl,
        made (record { task = task; tokens = all }) values mean,
      );
}

-- a token that the part takes
pub token_spelled : (task : CitedTask) (by : Taker.Taker) (m : Meaning (Taken by)) (t : Token) →
    IsTrue (mark_taken by (mark_of (length task.forms) t.text)) →
    ((all : List Token) (n : ℕ) → slice_get all n ≡ Some t → Means (record { task = task; tokens = all }) (Taken by) (seen_as (length task.forms) n t) m) →
    Spells task (Taken by) m (t ∷ [])
token_spelled task by m t taken means = record {
  at = λ all n stand. (seen_as (length task.forms) n t, of_token (seen_as (length task.forms) n t) taken refl refl, means all n stand.0);
}
