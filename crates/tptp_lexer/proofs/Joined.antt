-- Texts with a separator between each two, a text at a time.
use Rattle.std.proofs.Common.{◌≡◌, List, [], ◌∷◌, ◌++◌, refl, ap, ◌∙◌, sym, append_assoc}
use Rattle.std.proofs.lemmas.List.{append-nil}
use Rattle.text_core.specs.Names.{Text}
use Rattle.tptp_lexer.specs.Written.{joined_texts}

-- texts, the first behind some bytes and each further one behind the separator
abbrev pub led : Text → Text → List Text → Text
led before separator [] = []
led before separator (x ∷ xs) = before ++ (x ++ led separator separator xs)

-- joined texts are led by nothing
pub joined_led : (separator : Text) (xs : List Text) → joined_texts separator xs ≡ led [] separator xs
joined_led separator [] = refl
joined_led separator (x ∷ []) = sym (append-nil x)
joined_led separator (x ∷ y ∷ ys) = append_assoc x separator (joined_texts separator (y ∷ ys)) ∙ ap (λ (zs : Text). x ++ (separator ++ zs)) (joined_led separator (y ∷ ys))
