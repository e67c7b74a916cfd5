-- How names are written in Isar, and which name a word is the written form of.
use Rattle.std.specs.Prelude.{ℕ, ◌+◌, ◌-◌, ◌*◌, ◌/◌, ◌%◌, ◌==◌, nat_lt, Bool, true, false, not, ◌&&◌, if◌then◌else◌, List, [], ◌∷◌, ◌++◌, drop, Option, Some, None, is_some, codes}
use Rattle.std.specs.List.{list_all, list_any}
use Rattle.std.specs.Str.{bytes_eq}
use Rattle.text_core.specs.Names.{Text, is_lower, is_digit, is_printable, is_word_from}

-- the words of the language
abbrev pub reserved_words : List Text
reserved_words =
    codes "lemma" ∷ codes "fixes" ∷ codes "assumes" ∷ codes "shows" ∷ codes "proof" ∷
    codes "have" ∷ codes "obtain" ∷ codes "where" ∷ codes "using" ∷ codes "by" ∷
    codes "blast" ∷ codes "show" ∷ codes "elim" ∷ codes "disjE" ∷ codes "assume" ∷
    codes "next" ∷ codes "qed" ∷ codes "as" ∷ codes "efq" ∷ []

abbrev pub is_reserved : Text → Bool
is_reserved text = list_any (bytes_eq text) reserved_words

-- the text begins with `x_` (120, 95)
abbrev pub has_prefix : Text → Bool
has_prefix (b ∷ c ∷ rest) = b == 120 && c == 95
has_prefix _ = false

-- a lower word that does not begin so and is no word of the language
abbrev pub is_plain : Text → Bool
is_plain name = is_word_from is_lower name && not (has_prefix name) && not (is_reserved name)

-- a hexadecimal digit: 0 (48) to 9, or a (97) to f
abbrev pub hex_digit : ℕ → ℕ
hex_digit n = if nat_lt n 10 then 48 + n else 87 + n

-- two digits for each byte
abbrev pub hex_text : Text → Text
hex_text [] = []
hex_text (b ∷ bs) = hex_digit (b / 16) ∷ hex_digit (b % 16) ∷ hex_text bs

-- a name as it is written: as it is where it is plain, else `x_` and its bytes in digits
abbrev pub isar_name : Text → Text
isar_name name = if is_plain name then name else codes "x_" ++ hex_text name

-- what a hexadecimal digit stands for
abbrev pub digit_value : ℕ → ℕ
digit_value b = if is_digit b then b - 48 else b - 87

-- the byte of each two digits
abbrev pub unhexed : Text → Text
unhexed [] = []
unhexed (b ∷ []) = []
unhexed (b ∷ c ∷ rest) = (digit_value b * 16 + digit_value c) ∷ unhexed rest

-- what a word would stand for as a written name
abbrev pub decoded : Text → Text
decoded word = if has_prefix word then unhexed (drop 2 word) else word

-- one or more bytes, each printable
abbrev pub may_name : Text → Bool
may_name [] = false
may_name (b ∷ bs) = list_all is_printable (b ∷ bs)

-- whether a word is the written form of a name
unfoldable pub is_written : Text → Bool
is_written word = may_name (decoded word) && bytes_eq (isar_name (decoded word)) word
