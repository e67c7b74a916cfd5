-- Words, numbers and quoted words as pieces, and what they name.
use Rattle.std.proofs.Common.{◌≡◌, ℕ, ◌≤◌, ◌==◌, inl, inr, Bool, true, false, ◌||◌, List, [], ◌∷◌, refl, ap, sym, ◌∙◌, arith}
use Rattle.std.specs.Prelude.{IsTrue, bytes_eq}
use Rattle.std.proofs.lemmas.Bool.{cond_both}
use Rattle.std.proofs.lemmas.Bool.Decides.{nat_tests}
use Rattle.text_core.specs.Names.{Text, is_lower, is_word_from}
use Rattle.text_core.specs.NameTexts.{IsPrintable, IsNameText, is_upper_word}
use Rattle.text_core.proofs.Laws.{or_neither, name_printable}
use Rattle.tptp_lexer.specs.declared.kind.Kind.{Kind}
use Rattle.tptp_lexer.specs.declared.kind.Kind.TheVariants.{Lower, Upper, Quoted, Integer, Dollar}
use Rattle.tptp_lexer.specs.Kinds.{is_printable, is_body, is_integer}
use Rattle.tptp_lexer.specs.Tokens.{Token, unescaped, named}
use Rattle.tptp_lexer.proofs.Whole.{lower_longest, upper_longest, dollar_longest, integer_longest}
use Rattle.tptp_lexer.proofs.Quoted.{word_longest, inside_of}
use Rattle.tptp_lexer.proofs.Bodies.{body_plain, body_escape}
use Rattle.tptp_lexer.specs.Spelling.{IsWord, IsNaming, SpellsName, SpellsVariable}
use Rattle.tptp_lexer.specs.Written.{escaped, quoted_text, word_text, name_text}
use Rattle.tptp_lexer.proofs.Printed.{Any, NoWord, Gives, IsToken, one_token, seen, before}

-- a word in lower case
pub lower_word : (x : Text) → is_word_from is_lower x ≡ true → Gives NoWord x (IsToken Lower x)
lower_word x h = one_token Lower x (λ rest may. lower_longest x rest h may)

-- a word in upper case
upper_word : (x : Text) → is_upper_word x ≡ true → Gives NoWord x (IsToken Upper x)
upper_word x h = one_token Upper x (λ rest may. upper_longest x rest h may)

-- a word behind a dollar (36)
pub dollar_word : (x : Text) → is_word_from is_lower x ≡ true → Gives NoWord (36 ∷ x) (IsToken Dollar (36 ∷ x))
dollar_word x h = one_token Dollar (36 ∷ x) (λ rest may. dollar_longest x rest h may)

-- an integer
pub integer : (x : Text) → is_integer x ≡ true → Gives NoWord x (IsToken Integer x)
integer x h = one_token Integer x (λ rest may. integer_longest x rest h may)

-- quotes

-- one of two tests passes
turned : (s t : Bool) → (s || t) ≡ true → (t || s) ≡ true
turned true true h = refl
turned true false h = refl
turned false t h = rw h

-- a printable byte passes the test
printable : (b : ℕ) → 32 ≤ b → b ≤ 126 → is_printable b ≡ true
printable b low high = grind (arith, nat_tests)

-- what is escaped is a body
escaped_body : (x : Text) → IsPrintable x → is_body 39 (escaped x) ≡ true
escaped_body [] p = refl
escaped_body (b ∷ bs) p = go (escaped_body bs p.2)
  where
    go : is_body 39 (escaped bs) ≡ true → is_body 39 (escaped (b ∷ bs)) ≡ true
    go rest = cond_both (b == 39 || b == 92) (92 ∷ b ∷ escaped bs) (b ∷ escaped bs) (λ ys. is_body 39 ys ≡ true)
        (λ e. body_escape 39 b (escaped bs) (turned (b == 39) (b == 92) e) rest)
        (λ n. let other = or_neither (b == 39) (b == 92) n in body_plain 39 b (escaped bs) (record { printable = printable b p.0 p.1; unquoted = other.0; unescaped = other.1 }) rest)

-- a byte that is no backslash stands for itself
unescaped_plain : (b : ℕ) (xs : Text) → (b == 92) ≡ false → unescaped (b ∷ xs) ≡ b ∷ unescaped xs
unescaped_plain b [] n = refl
unescaped_plain b (c ∷ cs) n = rw n

-- what is escaped stands for itself
unescaped-escaped : (x : Text) → unescaped (escaped x) ≡ x
unescaped-escaped [] = refl
unescaped-escaped (b ∷ bs) = go (unescaped-escaped bs)
  where
    go : unescaped (escaped bs) ≡ bs → unescaped (escaped (b ∷ bs)) ≡ b ∷ bs
    go rest = cond_both (b == 39 || b == 92) (92 ∷ b ∷ escaped bs) (b ∷ escaped bs) (λ ys. unescaped ys ≡ b ∷ bs)
        (λ e. ap (λ (ys : Text). b ∷ ys) rest)
        (λ n. unescaped_plain b (escaped bs) (or_neither (b == 39) (b == 92) n).1 ∙ ap (λ (ys : Text). b ∷ ys) rest)

-- a name has some bytes, escaped too
some_escaped : (x : Text) → IsNameText x → bytes_eq (escaped x) [] ≡ false
some_escaped [] n = absurd n
some_escaped (b ∷ bs) n = cond_both (b == 39 || b == 92) (92 ∷ b ∷ escaped bs) (b ∷ escaped bs) (λ ys. bytes_eq ys [] ≡ false) (λ e. refl) (λ e. refl)

-- a name in quotes is a quoted word that names it
pub quoted : (x : Text) → IsNameText x → Gives Any (quoted_text x) (SpellsName (λ t. t.kind ≡ Quoted) x)
quoted x n = seen
    (λ ts s. (s.0, s.1, sym (ap (λ k. named k (s.0).text) s.1 ∙ ap (named Quoted) s.2 ∙ ap unescaped (inside_of 39 (escaped x)) ∙ unescaped-escaped x), s.3))
    (one_token Quoted (quoted_text x) (λ rest may. word_longest (escaped x) rest (escaped_body x (name_printable x n)) (some_escaped x n)))

-- names

-- a token that is no quoted word names its text
plain : (k : Kind) (x : Text) → ((text : Text) → named k text ≡ text) → (P : Token → Type 0) → ((t : Token) → t.kind ≡ k → P t) → (ts : List Token) → IsToken k x ts → SpellsName P x ts
plain k x same P is ts s = (s.0, is s.0 s.1, sym (ap (λ k. named k (s.0).text) s.1 ∙ same (s.0).text ∙ s.2), s.3)

-- a predicate or a constant spells its name
pub word : (x : Text) → IsNameText x → Gives NoWord (word_text x) (SpellsName IsWord x)
word x n = cond_both (is_word_from is_lower x) x (quoted_text x) (λ y. Gives NoWord y (SpellsName IsWord x))
    (λ h. seen (plain Lower x (λ text. refl) IsWord (λ t e. inl e)) (lower_word x h))
    (λ f. seen (λ ts s. (s.0, inr s.1, s.2, s.3)) (before (λ rest may. tt) (quoted x n)))

-- the name of a formula spells itself
pub naming : (x : Text) → IsNameText x → Gives NoWord (name_text x) (SpellsName IsNaming x)
naming x n = cond_both (is_word_from is_lower x || is_integer x) x (quoted_text x) (λ y. Gives NoWord y (SpellsName IsNaming x))
    (λ h. bare (is_word_from is_lower x) refl h)
    (λ f. seen (λ ts s. (s.0, inl (inr s.1), s.2, s.3)) (before (λ rest may. tt) (quoted x n)))
  where
    bare : (t : Bool) → is_word_from is_lower x ≡ t → (t || is_integer x) ≡ true → Gives NoWord x (SpellsName IsNaming x)
    bare true e h = seen (plain Lower x (λ text. refl) IsNaming (λ t k. inl (inl k))) (lower_word x e)
    bare false e h = seen (plain Integer x (λ text. refl) IsNaming (λ t k. inr k)) (integer x h)

-- a variable spells itself
pub variable : (x : Text) → IsTrue (is_upper_word x) → Gives NoWord x (SpellsVariable x)
variable x h = seen (plain Upper x (λ text. refl) (λ t. t.kind ≡ Upper) (λ t k. k)) (upper_word x h)
