-- Names as pieces of a text: with blanks before them, and between brackets.
use Rattle.std.specs.Prelude.{◌≡◌, List, [], ◌∷◌, ◌++◌, map, codes}
use Rattle.std.proofs.Common.{refl, sym, ap, inl, inr, append_assoc}
use Rattle.text_core.specs.Names.{Text}
use Rattle.tptp_lexer.specs.Written.{joined_texts}
use Rattle.tptp_lexer.proofs.Laws.{Any, NoWord, led, joined_led}
use Rattle.coherent_form.specs.Tasks.{CitedTask}
use Rattle.proof_text.specs.declared.part.Act.TheVariants as act
use Rattle.proof_text.specs.declared.part.Naming.TheVariants as naming
use Rattle.proof_text.specs.Named.{NamesAreNamed}
use Rattle.isar_text.specs.declared.fixed.Fixed.TheVariants as fixed
use Rattle.isar_text.specs.declared.part.IsarPart.TheVariants.{Row}
use Rattle.isar_text.specs.declared.part.Rule.TheVariants as rule
use Rattle.isar_text.specs.Names.{isar_name}
use Rattle.isar_text.specs.Heads.{spaced}
use Rattle.isar_text.specs.Bodies.{names_text}
use Rattle.isar_text.specs.Values.{name_in}
use Rattle.isar_text.proofs.TokenLaws.{Gives, before, comma_gives, open_bracket_gives, close_bracket_gives}
use Rattle.isar_text.proofs.Standing.{Spells}
use Rattle.isar_text.proofs.TakenPieces.{blank_before, sign_piece, name_piece}
use Rattle.isar_text.proofs.RowPieces.{as_text, none_piece, and_then, and_last, rule_piece, same_list}

-- what has a blank before it follows a word
pub spaced_follow : (xs : List Text) (rest : Text) → NoWord rest → NoWord (spaced xs ++ rest)
spaced_follow [] rest may = may
spaced_follow (x ∷ xs) rest may = refl

-- texts with a blank before each are led by blanks
pub spaced_led : (xs : List Text) → spaced xs ≡ led (codes " ") (codes " ") xs
spaced_led [] = refl
spaced_led (x ∷ xs) = ap (λ (t : Text). codes " " ++ (x ++ t)) (spaced_led xs)

-- further names behind blanks
pub more_words_piece : (task : CitedTask) (xs : List Text) → NamesAreNamed xs → Gives NoWord (spaced (map isar_name xs)) (Spells task (Row rule.MoreWords) xs)
more_words_piece task [] named = rule_piece task rule.MoreWords (inl tt) tt [] (λ lexed values mean. refl) (before (λ rest may. tt) (none_piece task))
more_words_piece task (x ∷ xs) named =
    rule_piece task rule.MoreWords (inr (inl tt)) (x, (xs, tt)) (x ∷ xs)
    (λ lexed values mean. same_list (name_in lexed.tokens values.0) x values.1.0 xs mean.0 mean.1.0)
    (and_then x (xs, tt) (blank_before (name_piece task naming.Listed x named.0)) (and_last xs (more_words_piece task xs named.1))
    (λ rest may. spaced_follow (map isar_name xs) rest may))

-- further names follow a word
led_follows : (xs : List Text) (rest : Text) → NoWord rest → NoWord (led (codes ",") (codes ",") xs ++ rest)
led_follows [] rest may = may
led_follows (x ∷ xs) rest may = refl

-- further names behind commas
more_names_piece : (task : CitedTask) (xs : List Text) → NamesAreNamed xs →
    Gives NoWord (led (codes ",") (codes ",") (map isar_name xs)) (Spells task (Row rule.MoreNames) xs)
more_names_piece task [] named = rule_piece task rule.MoreNames (inl tt) tt [] (λ lexed values mean. refl) (before (λ rest may. tt) (none_piece task))
more_names_piece task (x ∷ xs) named =
    rule_piece task rule.MoreNames (inr (inl tt)) (tt, (x, (xs, tt))) (x ∷ xs)
    (λ lexed values mean. same_list (name_in lexed.tokens values.1.0) x values.1.1.0 xs mean.1.0 mean.1.1.0)
    (and_then tt (x, (xs, tt)) (sign_piece task fixed.Comma act.Nothing comma_gives)
    (and_then x (xs, tt) (name_piece task naming.Listed x named.0) (and_last xs (more_names_piece task xs named.1))
    (λ rest may. led_follows (map isar_name xs) rest may)) (λ rest may. tt))

-- names between brackets
listed_names_piece : (task : CitedTask) (xs : List Text) → NamesAreNamed xs →
    Gives NoWord (joined_texts (codes ",") (map isar_name xs)) (Spells task (Row rule.ListedNames) xs)
listed_names_piece task [] named = rule_piece task rule.ListedNames (inl tt) tt [] (λ lexed values mean. refl) (before (λ rest may. tt) (none_piece task))
listed_names_piece task (x ∷ xs) named =
    as_text (sym (joined_led (codes ",") (map isar_name (x ∷ xs))))
    (rule_piece task rule.ListedNames (inr (inl tt)) (x, (xs, tt)) (x ∷ xs)
    (λ lexed values mean. same_list (name_in lexed.tokens values.0) x values.1.0 xs mean.0 mean.1.0)
    (and_then x (xs, tt) (name_piece task naming.Listed x named.0) (and_last xs (more_names_piece task xs named.1))
    (λ rest may. led_follows (map isar_name xs) rest may)))

-- names in brackets
pub names_piece : (task : CitedTask) (xs : List Text) → NamesAreNamed xs → Gives Any (names_text xs) (Spells task (Row rule.Names) xs)
names_piece task xs named =
    as_text (sym (append_assoc (codes "[") (joined_texts (codes ",") (map isar_name xs)) (codes "]")))
    (rule_piece task rule.Names (inl tt) (tt, (xs, (tt, tt))) xs (λ lexed values mean. mean.1.0)
    (and_then tt (xs, (tt, tt)) (sign_piece task fixed.OpenBracket act.BeginNames open_bracket_gives)
    (and_then xs (tt, tt) (listed_names_piece task xs named)
    (and_last tt (sign_piece task fixed.CloseBracket act.Nothing close_bracket_gives)) (λ rest may. refl)) (λ rest may. tt)))
