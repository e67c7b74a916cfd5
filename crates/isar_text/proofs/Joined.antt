-- Texts behind a first one, with a blank before each.
use Rattle.std.proofs.Common.{◌≡◌, List, [], ◌∷◌, ◌++◌, codes, refl, ap, sym, ◌∙◌, append_assoc, append-nil}
use Rattle.text_core.specs.Names.{Text}
use Rattle.tptp_lexer.specs.Written.{joined_texts}
use Rattle.isar_text.specs.Heads.{spaced}

-- texts joined by blanks
pub joined_spaced : (x : Text) (xs : List Text) → joined_texts (codes " ") (x ∷ xs) ≡ x ++ spaced xs
joined_spaced x [] = sym (append-nil x)
joined_spaced x (y ∷ ys) =
    append_assoc x (codes " ") (joined_texts (codes " ") (y ∷ ys)) ∙ ap (λ (t : Text). x ++ (codes " " ++ t)) (joined_spaced y ys)

-- what is appended behind a text that is appended
pub two_put : (out a b one all : Text) → one ≡ out ++ a → all ≡ one ++ b → all ≡ out ++ (a ++ b)
two_put out a b one all one_is all_is = all_is ∙ ap (λ (t : Text). t ++ b) one_is ∙ append_assoc out a b

-- a predicate and its arguments, one behind the other
pub predicate_put : (out p one all : Text) (args : List Text) → one ≡ out ++ p → all ≡ one ++ spaced args → all ≡ out ++ joined_texts (codes " ") (p ∷ args)
predicate_put out p one all args one_is all_is =
    two_put out p (spaced args) one all one_is all_is ∙ ap (λ (t : Text). out ++ t) (sym (joined_spaced p args))
