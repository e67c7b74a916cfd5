-- What the machine accepts is a text of items, which the reader reads; and a text of items is accepted.
use Rattle.std.specs.Prelude.{◌≡◌, ℕ, List, [], length, true, Some}
use Rattle.std.specs.List.{AllByRecursion}
use Rattle.std.proofs.Common.{sym, ◌∙◌, ap, subst}
use Rattle.text_core.proofs.Laws.{value_same}
use Rattle.text_core.specs.Names.{Text}
use Rattle.logic_core.specs.declared.problem.Item.{Item}
use Rattle.token_grammar.specs.Answers.{IsClean}
use Rattle.token_grammar.specs.Watch.{Sees}
use Rattle.token_grammar.proofs.Laws.{one_taking_of_text, spelled_taken}
use Rattle.tptp_lexer.specs.Kinds.{kind_of}
use Rattle.tptp_lexer.specs.Tokens.{Token, Reads, AreTokens, IsEnd, stop, blank, comment, token}
use Rattle.text_core.specs.declared.limits.TheConstants.{MOST_LEVELS}
use Rattle.tptp_grammar.specs.declared.refusal.SyntaxRefusal.{SyntaxRefusal}
use Rattle.tptp_grammar.specs.declared.item_part.ItemPart.{ItemPart}
use Rattle.tptp_grammar.specs.declared.item_part.ItemPart.TheVariants as parts
use Rattle.tptp_grammar.specs.Parts.{fof_items}
use Rattle.tptp_grammar.specs.Plan.{items_plan}
use Rattle.tptp_grammar.specs.PartsLaw.{items_law}
use Rattle.tptp_grammar.specs.Limits.{Bindings, items_watcher}
use Rattle.tptp_grammar.specs.Marks.{marks_of}
use Rattle.tptp_grammar.specs.Spells.{SpellsItems, AreItemsOf, ItemIsClosed}
use Rattle.tptp_grammar.specs.Texts.{SyntaxFault}
use Rattle.tptp_grammar.specs.Told.{IsAcceptedText}
use Rattle.tptp_grammar.specs.Reading.{items_from, IsReadable}
use Rattle.tptp_grammar.proofs.Faults.{accepted_no_fault}
use Rattle.tptp_grammar.proofs.ItemsRead.{items_read}
use Rattle.tptp_grammar.proofs.Allowed.{items_allowed}
use Rattle.tptp_grammar.proofs.Valued.{items_spelled}
use Rattle.tptp_grammar.proofs.Watched.{IsWatched, watched}

-- the text of each token is of its kind
proper_read : (left : ℕ → Text → Type 0) {from : ℕ} {bytes : Text} {ts : List Token} → Reads left from bytes ts →
    AllByRecursion (λ t. kind_of t.text ≡ Some t.kind) ts
proper_read left (stop h) = tt
proper_read left (blank h rest) = proper_read left rest
proper_read left (comment text rest split is later) = proper_read left later
proper_read left (token kind text rest split longest later) = (longest.token, proper_read left later)

-- the same, of the tokens of a source
proper_tokens : (bytes : Text) (ts : List Token) → AreTokens bytes ts → AllByRecursion (λ t. kind_of t.text ≡ Some t.kind) ts
proper_tokens bytes ts tokens = proper_read IsEnd tokens

-- items that are spelled are closed where the watcher finds nothing
closed_items : (bytes : Text) (ts : List Token) (items : List Item) (takers : List ItemPart) (after : Bindings) → AreTokens bytes ts →
    SpellsItems items ts → IsClean fof_items items_watcher true parts.Items [] (marks_of ts) takers after → AllByRecursion ItemIsClosed items
closed_items bytes ts items takers after are spelled clean =
    let w : IsWatched ts items = watched ts items spelled in
    let same = one_taking_of_text fof_items items_plan items_law parts.Items true true (marks_of ts) takers w.takers clean.taken w.taken in
    w.tells after (proper_tokens bytes ts are) (subst (λ ps. Sees items_watcher [] ps (marks_of ts) after) same clean.seen)

-- tokens that are accepted are a text of items
pub text_of : (bytes : Text) (ts : List Token) → AreTokens bytes ts → IsAcceptedText (marks_of ts) → (items : List Item) × AreItemsOf ts items
text_of bytes ts are (after, accepted) =
    let (takers, clean) = accepted.clean in
    let (items, spelled) = items_spelled ts takers after clean.taken clean.seen in
    (items, record { spelled = spelled; closed = closed_items bytes ts items takers after are spelled clean })

-- what is accepted can be read
pub readable : (bytes : Text) (ts : List Token) → AreTokens bytes ts → IsAcceptedText (marks_of ts) → IsReadable ts
readable bytes ts are accepted =
    let (items, text) = text_of bytes ts are accepted in
    record {
      items = items;
      is_read = items_read items ts text.spelled;
      allowed = items_allowed ts items text.spelled text.closed;
    }

-- what the reader reads is what the tokens are a text of
pub read_is_text : (bytes : Text) (ts : List Token) (items : List Item) → AreTokens bytes ts → IsAcceptedText (marks_of ts) →
    items_from MOST_LEVELS (length ts) ts ≡ Some (items, []) → AreItemsOf ts items
read_is_text bytes ts items are accepted read =
    let (found, text) = text_of bytes ts are accepted in
    subst (AreItemsOf ts) (ap (λ (it : List Item × List Token). it.0) (value_same (sym (items_read found ts text.spelled) ∙ read))) text

-- a text of items is accepted
pub accepted_of : (ts : List Token) (items : List Item) → AreItemsOf ts items → IsAcceptedText (marks_of ts)
accepted_of ts items text =
    let w : IsWatched ts items = watched ts items text.spelled in
    let (after, seen) = w.passes text.closed in (
      after,
      record {
        text = spelled_taken fof_items w.taken;
        clean = (w.takers, record { taken = w.taken; seen = seen });
      },
    )

-- a text of items has no refusal
pub text_no_fault : (bytes : Text) (ts : List Token) (items : List Item) (fault : SyntaxRefusal) → AreItemsOf ts items →
    SyntaxFault (record { source = bytes; tokens = ts }) fault → ⊥
text_no_fault bytes ts items fault text found =
    let (after, accepted) = accepted_of ts items text in
    accepted_no_fault (record { source = bytes; tokens = ts }) after fault accepted found
