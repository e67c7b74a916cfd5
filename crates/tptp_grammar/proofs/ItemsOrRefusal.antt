-- The tokens of a source are a text of items, or they have a refusal.
use Rattle.std.specs.Prelude.{◌≡◌, ◌≢◌, ℕ, ◌<◌, ◌⊎◌, List, [], length, slice_get, option_map, Some, Result, Ok, Err}
use Rattle.std.proofs.Common.{inl, inr, refl, ap, ◌∙◌, arith}
use Rattle.std.proofs.lemmas.List.{length-map}
use Rattle.std.proofs.lemmas.Option.{slice_get-map, slice_get_cases}
use Rattle.text_core.specs.Names.{Text}
use Rattle.logic_core.specs.declared.problem.Item.{Item}
use Rattle.token_grammar.specs.Answers.{IsAnswer}
use Rattle.token_grammar.specs.Answered.{HasAnswer}
use Rattle.token_grammar.specs.declared.refusal.Refusal.{Refusal}
use Rattle.token_grammar.specs.declared.refusal.Refusal.TheVariants as machine
use Rattle.token_grammar.proofs.Laws.{tokens_answered, computed_decided}
use Rattle.tptp_lexer.specs.Tokens.{Token, AreTokens}
use Rattle.tptp_lexer.specs.Columns.{starts_of}
use Rattle.tptp_grammar.specs.declared.limit.Limit.{Limit}
use Rattle.tptp_grammar.specs.declared.refusal.SyntaxRefusal.{SyntaxRefusal}
use Rattle.tptp_grammar.specs.declared.refusal.SyntaxRefusal.TheVariants.{EndOfText}
use Rattle.tptp_grammar.specs.declared.item_part.ItemPart.{ItemPart}
use Rattle.tptp_grammar.specs.declared.item_part.ItemPart.TheVariants.{Items}
use Rattle.tptp_grammar.specs.Parts.{fof_items}
use Rattle.tptp_grammar.specs.Plan.{items_plan}
use Rattle.tptp_grammar.specs.PartsLaw.{items_law}
use Rattle.tptp_grammar.specs.Limits.{Bindings, items_watcher, look}
use Rattle.tptp_grammar.specs.Marks.{marks_of, mark_in}
use Rattle.tptp_grammar.specs.Texts.{SyntaxFault, makes_function}
use Rattle.tptp_grammar.specs.Spells.{AreItemsOf}
use Rattle.tptp_grammar.specs.Told.{unexpected, limited}
use Rattle.tptp_grammar.proofs.Accepted.{text_of}
use Rattle.tptp_grammar.proofs.Faults.{unexpected_told, stopped_told}

-- the token whose mark has this number
token_at : (ts : List Token) (n : ℕ) → n < length (marks_of ts) → (t : Token) × slice_get ts n ≡ Some t
token_at ts n within = elim ((slice_get_cases ts n).1) [
  | inl there ↦ (there.0, there.2)
  | inr past ↦ let few = past.0 in absurd (omega (arith, length-map ts (mark_in ts)))
]

-- the start of the token with this number
start_at : (ts : List Token) (n : ℕ) (t : Token) → slice_get ts n ≡ Some t → slice_get (starts_of ts) n ≡ Some t.start
start_at ts n t at = slice_get-map (λ (t : Token). t.start) ts n ∙ ap (option_map (λ (t : Token). t.start)) at

-- the mark of the token with this number
mark_at : (ts : List Token) (n : ℕ) (t : Token) → slice_get ts n ≡ Some t → slice_get (marks_of ts) n ≡ Some (mark_in ts t)
mark_at ts n t at = slice_get-map (mark_in ts) ts n ∙ ap (option_map (mark_in ts)) at

module _ (source : Text) (ts : List Token) (are : AreTokens source ts) where
  -- they are a text of items, or they have a refusal
  abbrev HasReading : Type 0
  HasReading = ((items : List Item) × AreItemsOf ts items) ⊎
      ((fault : SyntaxRefusal) × SyntaxFault (record { source = source; tokens = ts }) fault)

  -- what an answer of the machine other than want of memory tells of the tokens
  of_answer : (answer : Result (Unit {0}) (Refusal ItemPart Limit)) (after : Bindings) → answer ≢ Err machine.Memory →
      IsAnswer fof_items items_watcher Items [] (marks_of ts) after answer → HasReading
  of_answer (Ok done) after known accepted = inl (text_of source ts are (after, accepted))
  of_answer (Err machine.Memory) after known refused = absurd (known refl)
  of_answer (Err (machine.Unexpected n last)) after known found =
      let (t, at) = token_at ts n found.first.within in
      let mark = mark_in ts t in
      inr (
        unexpected (makes_function last mark) t.start,
        unexpected_told (record { source = source; tokens = ts }) n t.start (makes_function last mark)
            (start_at ts n t at) (after, last, mark, found, mark_at ts n t at, refl),
      )
  of_answer (Err (machine.Stopped n why)) after known found =
      let (t, at) = token_at ts n found.within in
      inr (
        limited why t.start,
        stopped_told (record { source = source; tokens = ts }) n t.start why
            (start_at ts n t at) found,
      )
  of_answer (Err machine.EndsEarly) after known early = inr (EndOfText (length source), (refl, (after, early)))

-- the tokens of a source are a text of items, or they have a refusal
pub items_or_refusal : (source : Text) (ts : List Token) → AreTokens source ts →
    ((items : List Item) × AreItemsOf ts items) ⊎
    ((fault : SyntaxRefusal) × SyntaxFault (record { source = source; tokens = ts }) fault)
items_or_refusal source ts are =
    let answered : HasAnswer fof_items items_watcher Items [] (marks_of ts) =
    tokens_answered fof_items items_plan items_watcher items_law (computed_decided look) Items [] (marks_of ts) in
    of_answer source ts are answered.answer answered.after answered.known answered.is_answer
