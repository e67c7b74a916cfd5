-- What the bytes of a file are, how they are refused, and what a refusal leaves of the files.
use Rattle.std.specs.Prelude.{List}
use Rattle.text_core.specs.Names.{Text}
use Rattle.logic_core.specs.declared.problem.Item.{Item}
use Rattle.io_core.specs.Known.{Known}
use Rattle.io_core.specs.Fetched.{Stays, Fails}
use Rattle.io_core.specs.declared.files.FetchFault.{FetchFault}
use Rattle.io_core.specs.declared.files.FetchFault.TheVariants as fetch
use Rattle.tptp_lexer.specs.declared.refusal.LexRefusal.{LexRefusal}
use Rattle.tptp_lexer.specs.declared.refusal.LexRefusal.TheVariants as lex
use Rattle.tptp_lexer.specs.Tokens.{Token, AreTokens}
use Rattle.tptp_lexer.specs.Refused.{LexFault}
use Rattle.tptp_grammar.specs.declared.refusal.SyntaxRefusal.{SyntaxRefusal}
use Rattle.tptp_grammar.specs.declared.refusal.SyntaxRefusal.TheVariants as grammar
use Rattle.tptp_grammar.specs.Spells.{AreItemsOf}
use Rattle.tptp_grammar.specs.Texts.{SyntaxFault}
use Rattle.include_flat.specs.declared.refusal.FlatWhy.{FlatWhy}
use Rattle.include_flat.specs.declared.refusal.FlatWhy.TheVariants.{Lex, Syntax, FileFault, FileTooLong, Memory}

-- how a fault of a fetch and a refusal of a text are told of a file
abbrev pub fetch_why : FetchFault → FlatWhy
fetch_why fetch.Failed = FileFault
fetch_why fetch.TooLong = FileTooLong
fetch_why fetch.Memory = Memory

abbrev pub lex_why : LexRefusal → FlatWhy
lex_why lex.Memory = Memory
lex_why refusal = Lex refusal

abbrev pub syntax_why : SyntaxRefusal → FlatWhy
syntax_why grammar.Memory = Memory
syntax_why refusal = Syntax refusal

-- the bytes are a text of these items
abbrev pub AreBytesOf : Text → List Item → Type 0
AreBytesOf bytes items = (ts : List Token) × AreTokens bytes ts × AreItemsOf ts items

-- the bytes are a text of no items, or memory ran out
abbrev pub IsTextRefusal : Text → FlatWhy → Type 0
IsTextRefusal bytes (Lex refusal) = LexFault bytes refusal
IsTextRefusal bytes (Syntax refusal) = (ts : List Token) × AreTokens bytes ts ×
    SyntaxFault (record { source = bytes; tokens = ts }) refusal
IsTextRefusal bytes Memory = Unit {0}
IsTextRefusal bytes why = ⊥

-- what a refusal leaves of the files: a fetch failed where it tells of a fault
abbrev pub Leaves : Known → Known → Text → FlatWhy → Type 0
Leaves files later file FileFault = Fails files later file
Leaves files later file why = Stays files later
