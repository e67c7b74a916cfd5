-- Laws for callers: tokens are a text of one list of items at most, which may be in a problem, have one refusal at most, and never both.
use Rattle.std.specs.Prelude.{◌≡◌, ◌⊎◌, List, Ok, Err}
use Rattle.text_core.proofs.Laws.{exact_value, exact_refusal}
use Rattle.text_core.specs.Exact.{Exact}
use Rattle.logic_core.specs.declared.problem.Item.{Item}
use Rattle.tptp_lexer.specs.Tokens.{Token}
use Rattle.tptp_lexer.specs.Columns.{Lexed}
use Rattle.tptp_grammar.specs.declared.refusal.SyntaxRefusal.{SyntaxRefusal}
use Rattle.tptp_grammar.specs.declared.refusal.SyntaxRefusal.TheVariants.{Memory}
use Rattle.tptp_grammar.specs.Spells.{AreItemsOf}
use Rattle.tptp_grammar.specs.Texts.{SyntaxFault}
use Rattle.tptp_grammar.proofs.Accepted.{text_no_fault}
pub use Rattle.tptp_grammar.proofs.Allowed.{items_allowed}
pub use Rattle.tptp_grammar.proofs.Faults.{fault_same}
use Rattle.tptp_grammar.proofs.ItemsRead.{one_text}
pub use Rattle.tptp_grammar.proofs.ItemsOrRefusal.{items_or_refusal}

-- two lists of items of the same tokens
pub items_same : (ts : List Token) (a b : List Item) → AreItemsOf ts a → AreItemsOf ts b → a ≡ b
items_same ts a b first second = one_text a b ts first.spelled second.spelled

-- items and a refusal of the same tokens
pub items_no_fault : (lexed : Lexed) (items : List Item) (fault : SyntaxRefusal) → AreItemsOf lexed.tokens items →
    SyntaxFault lexed fault → ⊥
items_no_fault lexed items fault text found = text_no_fault lexed.source lexed.tokens items fault text found

-- items at hand are the exact answer
pub exact_items : (lexed : Lexed) (items : List Item) → AreItemsOf lexed.tokens items →
    Exact (AreItemsOf lexed.tokens) (SyntaxFault lexed) Memory (Ok items)
exact_items lexed items text =
    exact_value (AreItemsOf lexed.tokens) (SyntaxFault lexed) Memory (items_same lexed.tokens) (fault_same lexed)
    (items_no_fault lexed) items text

-- a refusal at hand is the exact answer
pub exact_fault : (lexed : Lexed) (refusal : SyntaxRefusal) → (refusal ≡ Memory) ⊎ SyntaxFault lexed refusal →
    Exact (AreItemsOf lexed.tokens) (SyntaxFault lexed) Memory (Err refusal)
exact_fault lexed refusal told =
    exact_refusal (AreItemsOf lexed.tokens) (SyntaxFault lexed) Memory (items_same lexed.tokens) (fault_same lexed)
    (items_no_fault lexed) refusal told
