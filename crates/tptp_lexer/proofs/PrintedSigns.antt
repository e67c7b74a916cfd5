-- Signs, and the blanks around them, as pieces.
use Rattle.std.proofs.Common.{◌≡◌, ℕ, true, List, [], ◌∷◌, ◌++◌, codes, refl, ap, sym, ◌∙◌, subst, Some, None}
use Rattle.std.proofs.lemmas.Bool.{eqb-true}
use Rattle.std.proofs.lemmas.List.{append-nil}
use Rattle.text_core.specs.Names.{Text}
use Rattle.tptp_lexer.specs.declared.kind.Kind.{Kind}
use Rattle.tptp_lexer.specs.declared.kind.Kind.TheVariants as kind
use Rattle.tptp_lexer.specs.Kinds.{kind_of, begins_with}
use Rattle.tptp_lexer.specs.Tokens.{Token, is_blank}
use Rattle.tptp_lexer.proofs.Printed.{Any, BlankNext, Gives, IsOne, one_blank, one_token, seen, followed}

-- a sign that never goes on
sign : (k : Kind) (text : Text) → kind_of text ≡ Some k → ((c : ℕ) (cs : Text) → kind_of (text ++ c ∷ cs) ≡ None) → Gives Any text (IsOne k)
sign k text is longer = seen (λ ts s. (s.0, s.1, s.3)) (one_token k text (λ rest may. record { token = is; longest = λ c more after e. longer c more }))

-- the signs that are printed without blanks
pub open_parenthesis : Gives Any (codes "(") (IsOne kind.OpenParenthesis)
unfolding kind_of
open_parenthesis = sign kind.OpenParenthesis (codes "(") refl (λ c cs. refl)

-- a closing parenthesis
pub close_parenthesis : Gives Any (codes ")") (IsOne kind.CloseParenthesis)
unfolding kind_of
close_parenthesis = sign kind.CloseParenthesis (codes ")") refl (λ c cs. refl)

-- an opening bracket
pub open_bracket : Gives Any (codes "[") (IsOne kind.OpenBracket)
unfolding kind_of
open_bracket = sign kind.OpenBracket (codes "[") refl (λ c cs. refl)

-- a closing bracket
pub close_bracket : Gives Any (codes "]") (IsOne kind.CloseBracket)
unfolding kind_of
close_bracket = sign kind.CloseBracket (codes "]") refl (λ c cs. refl)

-- a comma
pub comma : Gives Any (codes ",") (IsOne kind.Comma)
unfolding kind_of
comma = sign kind.Comma (codes ",") refl (λ c cs. refl)

-- a dot
pub dot : Gives Any (codes ".") (IsOne kind.Dot)
unfolding kind_of
dot = sign kind.Dot (codes ".") refl (λ c cs. refl)

-- the first byte of a rest that begins with a blank
blank_is : (rest : Text) (c : ℕ) (cs : Text) → rest ≡ c ∷ cs → begins_with 32 rest ≡ true → c ≡ 32
blank_is [] c cs e h = absurd (cc)
blank_is (d ∷ ds) c cs e h = let same : d ≡ c = cc in sym same ∙ eqb-true d 32 h

-- a sign in front of a blank
pub led_sign : (k : Kind) (text : Text) → kind_of text ≡ Some k → ((cs : Text) → kind_of (text ++ 32 ∷ cs) ≡ None) → Gives BlankNext text (IsOne k)
led_sign k text is longer = seen (λ ts s. (s.0, s.1, s.3)) (one_token k text (λ rest may. record { token = is; longest = λ c more after e. rw (blank_is rest c (more ++ after) e may) (longer more) }))

-- a blank behind a piece, which leaves no token
pub gap_after : {may : Text → Type 0} {text : Text} {S : List Token → Type 0} (b : ℕ) → is_blank b ≡ true → ((rest : Text) → may (b ∷ rest)) → Gives may text S → Gives Any (text ++ b ∷ []) S
gap_after {S = S} b is follows p = seen (λ ts s. subst S (sym (s.4 ∙ ap (λ (us : List Token). s.0 ++ us) s.3 ∙ append-nil s.0)) s.2) (followed p (one_blank b is) (λ rest may. follows rest))

-- a blank behind a piece
pub blank_after : {may : Text → Type 0} {text : Text} {S : List Token → Type 0} → ((rest : Text) → may (codes " " ++ rest)) → Gives may text S → Gives Any (text ++ codes " ") S
blank_after follows p = gap_after 32 refl follows p

-- a blank before a piece
pub blank_before : {may : Text → Type 0} {text : Text} {S : List Token → Type 0} → Gives may text S → Gives may (codes " " ++ text) S
blank_before {S = S} p = seen (λ ts s. subst S (sym (s.4 ∙ ap (λ (us : List Token). us ++ s.1) s.2)) s.3) (followed (one_blank 32 refl) p (λ rest may. tt))

-- the signs that are printed with a blank behind, or on both sides
pub tilde : Gives Any (codes "~ ") (IsOne kind.Tilde)
unfolding kind_of
tilde = blank_after (λ rest. refl) (led_sign kind.Tilde (codes "~") refl (λ cs. refl))

-- an exclamation mark and a blank
pub exclamation : Gives Any (codes "! ") (IsOne kind.Exclamation)
unfolding kind_of
exclamation = blank_after (λ rest. refl) (led_sign kind.Exclamation (codes "!") refl (λ cs. refl))

-- a question mark and a blank
pub question : Gives Any (codes "? ") (IsOne kind.Question)
unfolding kind_of
question = blank_after (λ rest. refl) (led_sign kind.Question (codes "?") refl (λ cs. refl))

-- a colon between blanks
pub colon : Gives Any (codes " : ") (IsOne kind.Colon)
unfolding kind_of
colon = blank_before (blank_after (λ rest. refl) (led_sign kind.Colon (codes ":") refl (λ cs. refl)))

-- an equality sign between blanks
pub equals : Gives Any (codes " = ") (IsOne kind.Equal)
unfolding kind_of
equals = blank_before (blank_after (λ rest. refl) (led_sign kind.Equal (codes "=") refl (λ cs. refl)))

-- an inequality sign between blanks
pub differs : Gives Any (codes " != ") (IsOne kind.NotEqual)
unfolding kind_of
differs = blank_before (blank_after (λ rest. refl) (led_sign kind.NotEqual (codes "!=") refl (λ cs. refl)))

-- an ampersand between blanks
pub ampersand : Gives Any (codes " & ") (IsOne kind.Ampersand)
unfolding kind_of
ampersand = blank_before (blank_after (λ rest. refl) (led_sign kind.Ampersand (codes "&") refl (λ cs. refl)))

-- a bar between blanks
pub bar : Gives Any (codes " | ") (IsOne kind.Bar)
unfolding kind_of
bar = blank_before (blank_after (λ rest. refl) (led_sign kind.Bar (codes "|") refl (λ cs. refl)))
