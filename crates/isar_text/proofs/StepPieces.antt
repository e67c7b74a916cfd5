-- Steps as pieces of a text.
use Rattle.std.specs.Prelude.{◌≡◌, ℕ, zero, suc, ◌+◌, ◌<◌, ◌≤◌, List, [], ◌∷◌, ◌++◌, map, length, Some, codes}
use Rattle.std.specs.List.{AllByRecursion}
use Rattle.std.proofs.Common.{refl, ap, arith, inl, inr, append_assoc}
use Rattle.text_core.specs.Names.{Text}
use Rattle.tptp_lexer.proofs.Laws.{Any, NoWord}
use Rattle.coherent_form.specs.Tasks.{CitedTask}
use Rattle.coherent_form.specs.declared.citation.Citation.{Citation}
use Rattle.proof_text.specs.declared.body.Shown as Shown
use Rattle.proof_text.specs.declared.body.MpText.{MpText}
use Rattle.proof_text.specs.declared.part.Act as Act
use Rattle.proof_text.specs.declared.part.Act.TheVariants as act
use Rattle.proof_text.specs.declared.part.Naming.TheVariants as naming
use Rattle.proof_text.specs.Canonical.{indent}
use Rattle.proof_text.specs.Marks.{most_number}
use Rattle.proof_text.specs.Named.{NamesAreNamed, LineIsNamed}
use Rattle.proof_text.specs.Proper.{LineIsProper}
use Rattle.proof_text.specs.ScriptOf.{cite_of}
use Rattle.proof_text.specs.Values.{listed_step}
use Rattle.isar_text.specs.declared.fixed.Fixed.TheVariants as fixed
use Rattle.isar_text.specs.declared.part.IsarPart.TheVariants.{Taken, Row}
use Rattle.isar_text.specs.declared.part.Taker.TheVariants as taker
use Rattle.isar_text.specs.declared.part.Rule.TheVariants as rule
use Rattle.isar_text.specs.Names.{isar_name}
use Rattle.isar_text.specs.Heads.{line_label, form_label, line_feed, quoted, spaced}
use Rattle.isar_text.specs.Formulas.{line_text}
use Rattle.isar_text.specs.Bodies.{by_blast, names_text, labels_text, opening_text, step_text}
use Rattle.isar_text.specs.Tokens.{Token}
use Rattle.isar_text.proofs.TokenLaws.{Gives, before, colon_gives, open_comment_gives, close_comment_gives}
use Rattle.isar_text.proofs.Standing.{Spells}
use Rattle.isar_text.proofs.TakenPieces.{gap_after, blank_after, blank_before, sign_piece, keyword_piece, led_keyword, name_piece, form_piece, next_line_piece, old_line_piece}
use Rattle.isar_text.proofs.RowPieces.{as_text, none_piece, and_then, and_last, rule_piece}
use Rattle.isar_text.proofs.NamePieces.{spaced_follow, more_words_piece, names_piece}
use Rattle.isar_text.proofs.LinePieces.{quoted_line_piece}

-- blanks in front of a piece
pub indented : {may : Text → Type 0} {x : Text} {S : List Token → Type 0} (level : ℕ) → Gives may x S → Gives may (indent level ++ x) S
indented zero p = p
indented {S = S} (suc level) p = blank_before (blank_before (indented level p))

-- a colon and a blank
pub colon_piece : (task : CitedTask) (does : Act.Act) → Gives Any (codes ": ") (Spells task (Taken (taker.Fixed fixed.Colon does)) tt)
colon_piece task does = blank_after (λ rest. tt) (sign_piece task fixed.Colon does colon_gives)

-- the marks around an instance, and around the end of a body
pub open_comment_piece : (task : CitedTask) → Gives Any (codes " (* ") (Spells task (Taken (taker.Fixed fixed.OpenComment act.Nothing)) tt)
open_comment_piece task = blank_before (blank_after (λ rest. tt) (sign_piece task fixed.OpenComment act.Nothing open_comment_gives))

pub close_comment_piece : (task : CitedTask) (does : Act.Act) → Gives Any (codes " *)") (Spells task (Taken (taker.Fixed fixed.CloseComment does)) tt)
close_comment_piece task does = blank_before (sign_piece task fixed.CloseComment does close_comment_gives)

-- the words at the end of most lines
pub by_piece : (task : CitedTask) → Gives Any (codes " by ") (Spells task (Taken (taker.Fixed fixed.By act.Nothing)) tt)
by_piece task = blank_before (led_keyword task fixed.By act.Nothing refl)

pub blast_piece : (task : CitedTask) (does : Act.Act) → Gives Any (codes "blast" ++ line_feed) (Spells task (Taken (taker.Fixed fixed.Blast does)) tt)
blast_piece task does = gap_after 10 refl (λ rest. refl) (keyword_piece task fixed.Blast does refl)

-- labels of earlier lines
pub more_lines_piece : (task : CitedTask) (n : ℕ) → n ≤ most_number → (used : List ℕ) → AllByRecursion (λ m. m < n) used →
    Gives NoWord (labels_text used) (Spells task (Row (rule.MoreLines n)) tt)
more_lines_piece task n fits [] below = rule_piece task (rule.MoreLines n) (inl tt) tt tt (λ lexed values mean. refl) (before (λ rest may. tt) (none_piece task))
more_lines_piece task n fits (m ∷ used) below =
    let less = below.0 in
    rule_piece task (rule.MoreLines n) (inr (inl tt)) (tt, (tt, tt)) tt (λ lexed values mean. refl)
    (and_then tt (tt, tt) (blank_before (old_line_piece task n m less (omega arith))) (and_last tt (more_lines_piece task n fits used below.1))
    (λ rest may. spaced_follow (map line_label used) rest may))

-- a text that does not go on with a word follows labels
pub labels_follow : (used : List ℕ) (more rest : Text) → NoWord (more ++ rest) → NoWord ((labels_text used ++ more) ++ rest)
labels_follow [] more rest may = may
labels_follow (m ∷ used) more rest may = refl

-- an instance
instance_piece : (task : CitedTask) (names : List Text) → NamesAreNamed names →
    Gives Any (codes " (* " ++ (names_text names ++ codes " *)")) (Spells task (Row rule.Instance) names)
instance_piece task names named =
    rule_piece task rule.Instance (inl tt) (tt, (names, (tt, tt))) names (λ lexed values mean. mean.1.0)
    (and_then tt (names, (tt, tt)) (open_comment_piece task)
    (and_then names (tt, tt) (names_piece task names named) (and_last tt (close_comment_piece task act.KeepArgs)) (λ rest may. tt)) (λ rest may. tt))

-- the last words of a step
step_end_piece : (task : CitedTask) → Gives Any by_blast (Spells task (Row rule.StepEnd) tt)
step_end_piece task =
    rule_piece task rule.StepEnd (inl tt) (tt, (tt, tt)) tt (λ lexed values mean. refl)
    (and_then tt (tt, tt) (by_piece task) (and_last tt (blast_piece task act.EndStep)) (λ rest may. tt))

-- what a step uses
abbrev using_text : ℕ → List ℕ → List Text → Text
using_text form used names =
    codes " using " ++ (form_label form ++ (labels_text used ++ ((codes " (* " ++ (names_text names ++ codes " *)")) ++ by_blast)))

using_piece : (task : CitedTask) (n form : ℕ) (used : List ℕ) (names : List Text) → n ≤ most_number → form < length task.forms → form + 1 ≤ most_number →
    AllByRecursion (λ m. m < n) used → NamesAreNamed names →
    Gives Any (using_text form used names) (Spells task (Row (rule.Using n)) (cite_of task form, names))
using_piece task n form used names fits there small below named =
    rule_piece task (rule.Using n) (inl tt) (tt, (cite_of task form, (tt, (names, (tt, tt))))) (cite_of task form, names)
    (λ lexed values mean. λ i. (mean.1.0 i, mean.1.1.1.0 i))
    (and_then tt (cite_of task form, (tt, (names, (tt, tt)))) (blank_before (led_keyword task fixed.Using act.Nothing refl))
    (and_then (cite_of task form) (tt, (names, (tt, tt))) (form_piece task form there small)
    (and_then tt (names, (tt, tt)) (more_lines_piece task n fits used below)
    (and_then names (tt, tt) (instance_piece task names named) (and_last tt (step_end_piece task)) (λ rest may. tt)) (λ rest may. refl))
    (λ rest may. labels_follow used _ rest refl)) (λ rest may. tt))

-- a step from its label on, of its new names
abbrev given_text : ℕ → ℕ → List ℕ → List Text → Shown.Shown → Text
given_text n form used names line = line_label n ++ (codes ": " ++ (quoted (line_text line) ++ using_text form used names))

abbrev given_step : Citation → List Text → Shown.Shown → List Text → MpText
given_step cite names line fresh = listed_step cite names fresh (Some line)

given_piece : (task : CitedTask) (n form : ℕ) (used : List ℕ) (names : List Text) (line : Shown.Shown) → n ≤ most_number → form < length task.forms →
    form + 1 ≤ most_number → AllByRecursion (λ m. m < n) used → NamesAreNamed names → LineIsNamed line → LineIsProper line →
    Gives Any (given_text n form used names line) (Spells task (Row (rule.Given n)) (given_step (cite_of task form) names line))
given_piece task n form used names line fits there small below named line_named proper =
    rule_piece task (rule.Given n) (inl tt) (tt, (tt, (line, ((cite_of task form, names), tt)))) (given_step (cite_of task form) names line)
    (λ lexed values mean. λ i. λ fresh. listed_step (mean.1.1.1.0 i).0 (mean.1.1.1.0 i).1 fresh (Some (mean.1.1.0 i)))
    (and_then tt (tt, (line, ((cite_of task form, names), tt))) (next_line_piece task n fits)
    (and_then tt (line, ((cite_of task form, names), tt)) (colon_piece task act.KeepFresh)
    (and_then line ((cite_of task form, names), tt) (quoted_line_piece task line line_named proper)
    (and_last (cite_of task form, names) (using_piece task n form used names fits there small below named)) (λ rest may. tt)) (λ rest may. tt)) (λ rest may. refl))

-- texts of a step, in two orders
step_order : (a c d e f g h i j k l : Text) → a ++ (c ++ (d ++ (e ++ (f ++ (g ++ (h ++ ((i ++ (j ++ k)) ++ l))))))) ≡ a ++ c ++ d ++ e ++ f ++ g ++ h ++ i ++ j ++ k ++ l
step_order a c d e f g h i j k l = simp append_assoc

-- texts of a step with new names, in two orders
fresh_order : (a o x xs w g : Text) → (a ++ o) ++ (x ++ (xs ++ (w ++ g))) ≡ (a ++ ((o ++ (x ++ xs)) ++ w)) ++ g
fresh_order a o x xs w g = simp append_assoc

-- a step from its indent on
opened_piece : (task : CitedTask) (level n : ℕ) (fresh : List Text) (g : Text) (step : List Text → MpText) → NamesAreNamed fresh →
    Gives Any g (Spells task (Row (rule.Given n)) step) →
    Gives Any ((indent (level + 1) ++ opening_text fresh) ++ g) (Spells task (Row (rule.Step n)) (step fresh))
opened_piece task level n [] g step named given =
    rule_piece task (rule.Step n) (inl tt) (tt, (step, tt)) (step []) (λ lexed values mean. ap (λ (f : List Text → MpText). f []) mean.1.0)
    (and_then tt (step, tt) (indented (level + 1) (led_keyword task fixed.Have act.BeginNames refl)) (and_last step given) (λ rest may. tt))
opened_piece task level n (x ∷ xs) g step named given =
    as_text (fresh_order (indent (level + 1)) (codes "obtain") (codes " " ++ isar_name x) (spaced (map isar_name xs)) (codes " where ") g)
    (rule_piece task (rule.Step n) (inr (inl tt)) (tt, (x, (xs, (tt, (step, tt))))) (step (x ∷ xs))
    (λ lexed values mean. λ i. (mean.1.1.1.1.0 i) (mean.1.0 i ∷ mean.1.1.0 i))
    (and_then tt (x, (xs, (tt, (step, tt)))) (indented (level + 1) (keyword_piece task fixed.Obtain act.BeginNames refl))
    (and_then x (xs, (tt, (step, tt))) (blank_before (name_piece task naming.Listed x named.0))
    (and_then xs (tt, (step, tt)) (more_words_piece task xs named.1)
    (and_then tt (step, tt) (blank_before (led_keyword task fixed.Where act.Nothing refl)) (and_last step given) (λ rest may. tt)) (λ rest may. refl))
    (λ rest may. names_follow xs _ rest refl)) (λ rest may. refl)))
  where
    names_follow : (xs : List Text) (more rest : Text) → NoWord (more ++ rest) → NoWord ((spaced (map isar_name xs) ++ more) ++ rest)
    names_follow [] more rest may = may
    names_follow (x ∷ xs) more rest may = refl

-- a step
pub step_piece : (task : CitedTask) (level n form : ℕ) (used : List ℕ) (names fresh : List Text) (line : Shown.Shown) → n ≤ most_number →
    form < length task.forms → form + 1 ≤ most_number → AllByRecursion (λ m. m < n) used → NamesAreNamed names → NamesAreNamed fresh → LineIsNamed line →
    LineIsProper line →
    Gives Any (step_text level n form used (listed_step (cite_of task form) names fresh (Some line)))
    (Spells task (Row (rule.Step n)) (listed_step (cite_of task form) names fresh (Some line)))
step_piece task level n form used names fresh line fits there small below named fresh_named line_named proper =
    as_text (step_order (indent (level + 1) ++ opening_text fresh) (line_label n) (codes ": ") (quoted (line_text line)) (codes " using ") (form_label form)
    (labels_text used) (codes " (* ") (names_text names) (codes " *)") by_blast)
    (opened_piece task level n fresh (given_text n form used names line) (given_step (cite_of task form) names line) fresh_named
    (given_piece task n form used names line fits there small below named line_named proper))
