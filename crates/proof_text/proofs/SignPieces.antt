-- Signs that stand without blanks, as pieces of a text.
use Rattle.std.specs.Prelude.{◌==◌, false}
use Rattle.std.proofs.Common.{◌≡◌, ℕ, [], ◌∷◌, ◌++◌, codes, refl, ap, sym, ◌∙◌}
use Rattle.text_core.specs.Names.{Text}
use Rattle.tptp_lexer.specs.declared.kind.Kind.TheVariants as kind
use Rattle.tptp_lexer.specs.Kinds.{kind_of, begins_with}
use Rattle.tptp_lexer.proofs.Laws.{Any, Gives, IsOne, one_token, seen}

-- the first byte of a rest that does not begin with a byte
other_first : (m : ℕ) (rest : Text) (c : ℕ) (cs : Text) → rest ≡ c ∷ cs → begins_with m rest ≡ false → (c == m) ≡ false
other_first m [] c cs e h = absurd (cc)
other_first m (d ∷ ds) c cs e h = let same : d ≡ c = cc in ap (λ (b : ℕ). b == m) (sym same) ∙ h

-- neither `|` (124) nor `&` (38) follows
abbrev pub TildeEnds : Text → Type 0
TildeEnds rest = (begins_with 124 rest ≡ false) × (begins_with 38 rest ≡ false)

-- `~` in front of neither `|` nor `&`
pub tilde_alone : Gives TildeEnds (codes "~") (IsOne kind.Tilde)
unfolding kind_of
tilde_alone = seen (λ ts s. (s.0, s.1, s.3)) (one_token kind.Tilde (codes "~") (λ rest may. record {
  token = refl;
  longest = λ c more after e. rw (other_first 124 rest c (more ++ after) e may.0, other_first 38 rest c (more ++ after) e may.1) refl;
}))

-- `>` (62) does not follow
abbrev pub EqualEnds : Text → Type 0
EqualEnds rest = begins_with 62 rest ≡ false

-- `=` not in front of `>`
pub equal_alone : Gives EqualEnds (codes "=") (IsOne kind.Equal)
unfolding kind_of
equal_alone = seen (λ ts s. (s.0, s.1, s.3)) (one_token kind.Equal (codes "=") (λ rest may. record {
  token = refl;
  longest = λ c more after e. rw (other_first 62 rest c (more ++ after) e may) refl;
}))

-- `:` and what follows it
pub colon_alone : Gives Any (codes ":") (IsOne kind.Colon)
unfolding kind_of
colon_alone = seen (λ ts s. (s.0, s.1, s.3)) (one_token kind.Colon (codes ":") (λ rest may. record { token = refl; longest = λ c more after e. refl }))
