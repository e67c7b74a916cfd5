-- Signs as pieces of a text.
use Rattle.std.proofs.Common.{◌≡◌, ℕ, ◌+◌, ◌<◌, ◌==◌, Bool, true, false, [], ◌∷◌, ◌++◌, length, refl, ap, arith}
use Rattle.text_core.specs.Names.{Text, begins_with}
use Rattle.tptp_lexer.proofs.Laws.{Any}
use Rattle.isar_text.specs.declared.fixed.Fixed.TheVariants as fixed
use Rattle.isar_text.specs.Fixed.{fixed_text}
use Rattle.isar_text.specs.Tokens.{token_len, IsFirst}
use Rattle.isar_text.proofs.Pieces.{Gives, IsText, NoStar, NoEqual, one_token}

-- a sign that is the token at the front of each rest
sign : (text : Text) → 0 < length text → ((rest : Text) → token_len (text ++ rest) ≡ length text) → Gives Any text (IsText text)
sign text some len = one_token text (λ rest may. record { some = some; len = len rest })

-- the goal in words
pub thesis_gives : Gives Any (fixed_text fixed.Thesis) (IsText (fixed_text fixed.Thesis))
unfolding token_len
thesis_gives = sign (fixed_text fixed.Thesis) (omega arith) (λ rest. refl)

-- `"`
pub quote_gives : Gives Any (fixed_text fixed.Quote) (IsText (fixed_text fixed.Quote))
unfolding token_len
quote_gives = sign (fixed_text fixed.Quote) (omega arith) (λ rest. refl)

-- `:`
pub colon_gives : Gives Any (fixed_text fixed.Colon) (IsText (fixed_text fixed.Colon))
unfolding token_len
colon_gives = sign (fixed_text fixed.Colon) (omega arith) (λ rest. refl)

-- `(*`
pub open_comment_gives : Gives Any (fixed_text fixed.OpenComment) (IsText (fixed_text fixed.OpenComment))
unfolding token_len
open_comment_gives = sign (fixed_text fixed.OpenComment) (omega arith) (λ rest. refl)

-- `*)`
pub close_comment_gives : Gives Any (fixed_text fixed.CloseComment) (IsText (fixed_text fixed.CloseComment))
unfolding token_len
close_comment_gives = sign (fixed_text fixed.CloseComment) (omega arith) (λ rest. refl)

-- `)`
pub close_parenthesis_gives : Gives Any (fixed_text fixed.CloseParenthesis) (IsText (fixed_text fixed.CloseParenthesis))
unfolding token_len
close_parenthesis_gives = sign (fixed_text fixed.CloseParenthesis) (omega arith) (λ rest. refl)

-- `[`
pub open_bracket_gives : Gives Any (fixed_text fixed.OpenBracket) (IsText (fixed_text fixed.OpenBracket))
unfolding token_len
open_bracket_gives = sign (fixed_text fixed.OpenBracket) (omega arith) (λ rest. refl)

-- `]`
pub close_bracket_gives : Gives Any (fixed_text fixed.CloseBracket) (IsText (fixed_text fixed.CloseBracket))
unfolding token_len
close_bracket_gives = sign (fixed_text fixed.CloseBracket) (omega arith) (λ rest. refl)

-- `,`
pub comma_gives : Gives Any (fixed_text fixed.Comma) (IsText (fixed_text fixed.Comma))
unfolding token_len
comma_gives = sign (fixed_text fixed.Comma) (omega arith) (λ rest. refl)

-- `&`
pub ampersand_gives : Gives Any (fixed_text fixed.Ampersand) (IsText (fixed_text fixed.Ampersand))
unfolding token_len
ampersand_gives = sign (fixed_text fixed.Ampersand) (omega arith) (λ rest. refl)

-- `|`
pub bar_gives : Gives Any (fixed_text fixed.Bar) (IsText (fixed_text fixed.Bar))
unfolding token_len
bar_gives = sign (fixed_text fixed.Bar) (omega arith) (λ rest. refl)

-- `~=`
pub not_equal_gives : Gives Any (fixed_text fixed.NotEqual) (IsText (fixed_text fixed.NotEqual))
unfolding token_len
not_equal_gives = sign (fixed_text fixed.NotEqual) (omega arith) (λ rest. refl)

-- `=`
pub equal_gives : Gives Any (fixed_text fixed.Equal) (IsText (fixed_text fixed.Equal))
unfolding token_len
equal_gives = sign (fixed_text fixed.Equal) (omega arith) (λ rest. refl)

-- `(`, in front of no `*`
parenthesis_len : (rest : Text) → NoStar rest → token_len (40 ∷ rest) ≡ 1
unfolding token_len
parenthesis_len [] may = refl
parenthesis_len (c ∷ cs) may = rw may refl

pub open_parenthesis_gives : Gives NoStar (fixed_text fixed.OpenParenthesis) (IsText (fixed_text fixed.OpenParenthesis))
open_parenthesis_gives = one_token (fixed_text fixed.OpenParenthesis) (λ rest may. record { some = omega arith; len = parenthesis_len rest may })

-- `~`, in front of no `=`
tilde_len : (rest : Text) → NoEqual rest → token_len (126 ∷ rest) ≡ 1
unfolding token_len
tilde_len [] may = refl
tilde_len (c ∷ cs) may = rw may refl

pub tilde_gives : Gives NoEqual (fixed_text fixed.Tilde) (IsText (fixed_text fixed.Tilde))
tilde_gives = one_token (fixed_text fixed.Tilde) (λ rest may. record { some = omega arith; len = tilde_len rest may })
