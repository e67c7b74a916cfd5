-- The tokens of a source are of their kinds, and an upper word is one.
use Rattle.std.specs.Prelude.{Bool, true, false, ◌&&◌, ◌||◌, Some}
use Rattle.std.proofs.Common.{◌≡◌, ℕ, List, [], ◌∷◌, refl, ap, cond}
use Rattle.std.specs.List.{AllByRecursion}
use Rattle.text_core.specs.Names.{Text}
use Rattle.text_core.specs.NameTexts.{is_upper_word}
use Rattle.tptp_lexer.specs.declared.kind.Kind.{Kind}
use Rattle.tptp_lexer.specs.declared.kind.Kind.TheVariants as kind
use Rattle.tptp_lexer.specs.Kinds.{kind_of, kind_among, kinds}
use Rattle.tptp_lexer.specs.Tokens.{Token, Reads, AreTokens, IsEnd, stop, blank, comment, token}

-- the text of each token that is read is of its kind
kinds_read : (left : ℕ → Text → Type 0) {from : ℕ} {bytes : Text} {ts : List Token} → Reads left from bytes ts →
    AllByRecursion (λ t. kind_of t.text ≡ Some t.kind) ts
kinds_read left (stop h) = tt
kinds_read left (blank h rest) = kinds_read left rest
kinds_read left (comment text rest split is later) = kinds_read left later
kinds_read left (token kind text rest split longest later) = (longest.token, kinds_read left later)

-- the same, of the tokens of a source
pub kinds_proper : (bytes : Text) (ts : List Token) → AreTokens bytes ts → AllByRecursion (λ t. kind_of t.text ≡ Some t.kind) ts
kinds_proper bytes ts tokens = kinds_read IsEnd tokens

-- whether the kind is that of upper words
abbrev is_upper_kind : Kind → Bool
is_upper_kind kind.Upper = true
is_upper_kind _ = false

-- some row of the table has the kind, and the text passes its test
abbrev passes_some : List (Kind × (Text → Bool)) → Text → Bool
passes_some [] text = false
passes_some (row ∷ rows) text = (is_upper_kind row.0 && row.1 text) || passes_some rows text

-- a test that fails leaves the others
other_passes : (a others : Bool) → others ≡ true → (a && false) || others ≡ true
other_passes true others h = h
other_passes false others h = h

-- a text whose kind is that of upper words passes the test of a row of that kind
upper_passes : (rows : List (Kind × (Text → Bool))) (text : Text) → kind_among rows text ≡ Some kind.Upper → passes_some rows text ≡ true
upper_passes [] text e = absurd (cc)
upper_passes (row ∷ rows) text e = by_test (row.1 text) e (upper_passes rows text)
  where
    by_test : (b : Bool) → cond b (Some row.0) (kind_among rows text) ≡ Some kind.Upper →
        (kind_among rows text ≡ Some kind.Upper → passes_some rows text ≡ true) → (is_upper_kind row.0 && b) || passes_some rows text ≡ true
    by_test true e later =
        let same : row.0 ≡ kind.Upper = cc in
        ap (λ k. (is_upper_kind k && true) || passes_some rows text) same
    by_test false e later = other_passes (is_upper_kind row.0) (passes_some rows text) (later e)

-- the text of an upper word is one
pub upper_is_word : (text : Text) → kind_of text ≡ Some kind.Upper → is_upper_word text ≡ true
unfolding kind_of
upper_is_word text e = alone (is_upper_word text) (upper_passes kinds text e)
  where
    alone : (b : Bool) → b || false ≡ true → b ≡ true
    alone true h = refl
    alone false h = absurd (cc)
