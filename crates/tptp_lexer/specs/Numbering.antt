-- Upper words by number: that of the first token that is the word.
use Rattle.std.specs.Prelude.{◌≡◌, ℕ, List, Option, Some, position}
use Rattle.std.specs.Borrow.{Bor}
use Rattle.std.specs.HashMap.{HashMap, get_by}
use Rattle.std.specs.List.{position_or_len}
use Rattle.std.specs.Str.{bytes_eq}
use Rattle.text_core.specs.Names.{Text}
use Rattle.tptp_lexer.specs.declared.kind.Kind.TheVariants.{Upper}
use Rattle.tptp_lexer.specs.Kinds.{kind_of}
use Rattle.tptp_lexer.specs.Tokens.{Token}

-- the number of a word among tokens: that of the first that is this word
abbrev pub number_of : List Token → Text → ℕ
number_of ts text = position_or_len (λ (t : Token). bytes_eq t.text text) ts

-- the number that a table has for a word
abbrev pub number_in : {S : Type 0} → HashMap (Bor Text) ℕ S → Text → Option ℕ
number_in numbers word = get_by (λ key. bytes_eq word key.now) numbers

-- each upper word has the number of the first of these tokens that is this word, if there is one
abbrev pub AreNumbers : List Token → (Text → Option ℕ) → Type 0
AreNumbers ts number = (word : Text) → kind_of word ≡ Some Upper →
    number word ≡ position (λ (t : Token). bytes_eq t.text word) ts
