-- Ends of bodies as pieces of a text.
use Rattle.std.specs.Prelude.{Some, ◌≡◌, ℕ, ◌+◌, ◌<◌, ◌≤◌, List, [], ◌∷◌, ◌++◌, map, codes}
use Rattle.std.specs.Fmt.{decimal}
use Rattle.std.specs.List.{AllByRecursion}
use Rattle.std.proofs.Common.{refl, sym, ◌∙◌, ap, arith, inl, inr, append_assoc}
use Rattle.std.proofs.lemmas.List.{append-nil}
use Rattle.text_core.specs.Names.{Text}
use Rattle.tptp_lexer.proofs.Laws.{Any, NoWord}
use Rattle.coherent_form.specs.Tasks.{CitedTask}
use Rattle.proof_text.specs.declared.body.NamedAtom.{NamedAtom}
use Rattle.proof_text.specs.declared.body.MpText.{MpText}
use Rattle.proof_text.specs.declared.body.BodyText.{BodyText}
use Rattle.proof_text.specs.declared.body.CaseText.{CaseText}
use Rattle.proof_text.specs.declared.body.EndText.{EndText, As, Efq, Cs}
use Rattle.proof_text.specs.declared.part.Act.TheVariants as act
use Rattle.proof_text.specs.declared.part.Pass.TheVariants as pass
use Rattle.proof_text.specs.Canonical.{indent}
use Rattle.proof_text.specs.Marks.{most_number}
use Rattle.proof_text.specs.Named.{NamesAreNamed, AtomsAreNamed}
use Rattle.proof_text.specs.Proper.{AtomsAreProper}
use Rattle.isar_text.specs.declared.fixed.Fixed.TheVariants as fixed
use Rattle.isar_text.specs.declared.part.IsarPart.TheVariants.{Taken, Row}
use Rattle.isar_text.specs.declared.part.Taker.TheVariants as taker
use Rattle.isar_text.specs.declared.part.Rule.TheVariants as rule
use Rattle.isar_text.specs.Heads.{line_label, line_feed, quoted}
use Rattle.isar_text.specs.Formulas.{atom_text, facts_text}
use Rattle.isar_text.specs.Bodies.{by_blast, names_text, labels_text, used_text, thesis_text, as_text, efq_text, split_text, next_text, qed_text, case_line}
use Rattle.isar_text.specs.Values.{ended, number_in}
use Rattle.isar_text.proofs.TokenLaws.{Gives, thesis_gives, open_parenthesis_gives, close_parenthesis_gives}
use Rattle.isar_text.proofs.Standing.{Spells}
use Rattle.isar_text.proofs.TakenPieces.{gap_after, blank_after, blank_before, sign_piece, keyword_piece, led_keyword, next_line_piece, split_line_piece, disjunct_piece}
use Rattle.isar_text.proofs.RowPieces.{as_text as same_as, and_then, and_last, rule_piece, does_piece, same_list}
use Rattle.isar_text.proofs.NamePieces.{names_piece}
use Rattle.isar_text.proofs.LinePieces.{quoted_facts_piece}
use Rattle.isar_text.proofs.StepPieces.{indented, colon_piece, open_comment_piece, close_comment_piece, by_piece, blast_piece, more_lines_piece, labels_follow}

-- the last words of an end
blast_end_piece : (task : CitedTask) → Gives Any by_blast (Spells task (Row rule.ByBlast) tt)
blast_end_piece task =
    rule_piece task rule.ByBlast (inl tt) (tt, (tt, tt)) tt (λ lexed values mean. refl)
    (and_then tt (tt, tt) (by_piece task) (and_last tt (blast_piece task act.Nothing)) (λ rest may. tt))

-- the mark of an end by a disjunct of the goal
abbrev reason_text : ℕ → List Text → Text
reason_text disjunct names = codes " (* " ++ (codes "as " ++ ((decimal disjunct ++ codes " ") ++ (names_text names ++ (codes " *)" ++ by_blast))))

as_reason : (task : CitedTask) (disjunct : ℕ) (names : List Text) → disjunct ≤ most_number → NamesAreNamed names →
    Gives Any (reason_text disjunct names) (Spells task (Row rule.Reason) (As disjunct names))
as_reason task disjunct names fits named =
    rule_piece task rule.Reason (inl tt) (tt, (As disjunct names, tt)) (As disjunct names) (λ lexed values mean. mean.1.0)
    (and_then tt (As disjunct names, tt) (open_comment_piece task) (and_last (As disjunct names)
    (rule_piece task rule.Inside (inl tt) (tt, (disjunct, (names, (tt, (tt, tt))))) (As disjunct names)
    (λ lexed values mean. λ i. As (mean.1.0 i) (mean.1.1.0 i))
    (and_then tt (disjunct, (names, (tt, (tt, tt)))) (led_keyword task fixed.As act.Nothing refl)
    (and_then disjunct (names, (tt, (tt, tt))) (blank_after (λ rest. refl) (disjunct_piece task disjunct fits))
    (and_then names (tt, (tt, tt)) (names_piece task names named)
    (and_then tt (tt, tt) (close_comment_piece task act.EndAs) (and_last tt (blast_end_piece task)) (λ rest may. tt)) (λ rest may. tt)) (λ rest may. tt))
    (λ rest may. tt)))) (λ rest may. tt))

-- the mark of an end by falsehood
efq_reason : (task : CitedTask) → Gives Any (codes " (* efq *)" ++ by_blast) (Spells task (Row rule.Reason) Efq)
efq_reason task =
    rule_piece task rule.Reason (inl tt) (tt, (Efq, tt)) Efq (λ lexed values mean. mean.1.0)
    (and_then tt (Efq, tt) (open_comment_piece task) (and_last Efq
    (rule_piece task rule.Inside (inr (inl tt)) (tt, (tt, (tt, tt))) Efq (λ lexed values mean. refl)
    (and_then tt (tt, (tt, tt)) (keyword_piece task fixed.Efq act.Nothing refl)
    (and_then tt (tt, tt) (close_comment_piece task act.EndEfq) (and_last tt (blast_end_piece task)) (λ rest may. tt)) (λ rest may. refl)))) (λ rest may. tt))

-- `using`, which a blank or a label follows
using_piece : (task : CitedTask) → Gives NoWord (codes " using") (Spells task (Taken (taker.Fixed fixed.Using act.Nothing)) tt)
using_piece task = blank_before (keyword_piece task fixed.Using act.Nothing refl)

-- what follows the first words of an end with a mark, where the mark does not go on with a word
after_thesis : (task : CitedTask) (n : ℕ) (used : List ℕ) (end : EndText) (reason : Text) → n ≤ most_number → AllByRecursion (λ m. m < n) used →
    ((rest : Text) → NoWord (reason ++ rest)) → Gives Any reason (Spells task (Row rule.Reason) end) →
    Gives Any (used_text used ++ reason) (Spells task (Row (rule.AfterThesis n)) end)
after_thesis task n [] end reason fits below follows p =
    rule_piece task (rule.AfterThesis n) (inr (inl tt)) (end, tt) end (λ lexed values mean. mean.0) (and_last end p)
after_thesis task n (m ∷ used) end reason fits below follows p =
    let less = below.0 in
    same_as (used_order (codes " using") (codes " " ++ line_label m) (labels_text used) reason)
    (rule_piece task (rule.AfterThesis n) (inl tt) (tt, (m, (ended end, tt))) end
    (λ lexed values mean. ap (λ (f : ℕ → EndText). f (number_in values.1.0)) mean.1.1.0)
    (and_then tt (m, (ended end, tt)) (using_piece task)
    (and_then m (ended end, tt) (blank_before (split_line_piece task n m less (omega arith))) (and_last (ended end)
    (rule_piece task (rule.AfterLine n) (inr (inl tt)) (tt, (end, tt)) (ended end) (λ lexed values mean. ap ended mean.1.0)
    (and_then tt (end, tt) (more_lines_piece task n fits used below.1) (and_last end p) (λ rest may. follows rest))))
    (λ rest may. labels_follow used reason rest (follows rest))) (λ rest may. refl)))
  where
    used_order : (a b c d : Text) → a ++ (b ++ (c ++ d)) ≡ (a ++ (b ++ c)) ++ d
    used_order a b c d = simp append_assoc

-- the first words of an end and what follows them
finish_piece : (task : CitedTask) (level n : ℕ) (end : EndText) (after : Text) → Gives Any after (Spells task (Row (rule.AfterThesis n)) end) →
    Gives Any (thesis_text level ++ after) (Spells task (Row (rule.Finish n)) end)
finish_piece task level n end after p =
    same_as (thesis_order (indent (level + 1)) after)
    (rule_piece task (rule.Finish n) (inl tt) (tt, (tt, (end, tt))) end (λ lexed values mean. mean.1.1.0)
    (and_then tt (tt, (end, tt)) (indented (level + 1) (led_keyword task fixed.Show act.Nothing refl))
    (and_then tt (end, tt) (sign_piece task fixed.Thesis act.Nothing thesis_gives) (and_last end p) (λ rest may. tt)) (λ rest may. tt)))
  where
    thesis_order : (a t : Text) → (a ++ codes "show ") ++ (codes "?thesis" ++ t) ≡ (a ++ codes "show ?thesis") ++ t
    thesis_order a t = append_assoc a (codes "show ") (codes "?thesis" ++ t) ∙ sym (append_assoc a (codes "show ?thesis") t)

-- the end by a disjunct of the goal
pub as_piece : (task : CitedTask) (level n : ℕ) (used : List ℕ) (disjunct : ℕ) (names : List Text) → n ≤ most_number → AllByRecursion (λ m. m < n) used →
    disjunct ≤ most_number → NamesAreNamed names →
    Gives Any (as_text level used disjunct names) (Spells task (Row (rule.Finish n)) (As disjunct names))
as_piece task level n used disjunct names fits below small named =
    same_as (as_order (thesis_text level) (used_text used) (codes " (* ") (codes "as ") (decimal disjunct) (codes " ") (names_text names) (codes " *)") by_blast)
    (finish_piece task level n (As disjunct names) (used_text used ++ reason_text disjunct names)
    (after_thesis task n used (As disjunct names) (reason_text disjunct names) fits below (λ rest. refl) (as_reason task disjunct names small named)))
  where
    as_order : (t u o s d b n c e : Text) → t ++ (u ++ (o ++ (s ++ ((d ++ b) ++ (n ++ (c ++ e)))))) ≡ t ++ u ++ (o ++ s) ++ d ++ b ++ n ++ c ++ e
    as_order t u o s d b n c e = simp append_assoc

-- the end by falsehood
pub efq_piece : (task : CitedTask) (level n line : ℕ) → n ≤ most_number → line < n → Gives Any (efq_text level line) (Spells task (Row (rule.Finish n)) Efq)
efq_piece task level n line fits below =
    same_as (efq_order (thesis_text level) (used_text (line ∷ [])) (codes " (* efq *)") by_blast)
    (finish_piece task level n Efq (used_text (line ∷ []) ++ (codes " (* efq *)" ++ by_blast))
    (after_thesis task n (line ∷ []) Efq (codes " (* efq *)" ++ by_blast) fits (below, tt) (λ rest. refl) (efq_reason task)))
  where
    efq_order : (t u c e : Text) → t ++ (u ++ (c ++ e)) ≡ t ++ u ++ c ++ e
    efq_order t u c e = simp append_assoc

-- steps in front of an end
abbrev pub body_with : List MpText → EndText → BodyText
body_with steps end = record { steps = steps; end = end }

-- a case with these facts and this body
abbrev pub case_with : List NamedAtom → BodyText → CaseText
case_with facts body = record { shown = Some facts; body = body }

-- the first line of a case
head_piece : (task : CitedTask) (n : ℕ) (facts : List NamedAtom) → n ≤ most_number → AtomsAreNamed facts → AtomsAreProper facts →
    Gives Any (line_label n ++ (codes ": " ++ (quoted (facts_text (map atom_text facts)) ++ line_feed))) (Spells task (Row (rule.CaseHead n)) facts)
head_piece task n facts fits named proper =
    rule_piece task (rule.CaseHead n) (inl tt) (tt, (tt, (facts, tt))) facts (λ lexed values mean. mean.1.1.0)
    (and_then tt (tt, (facts, tt)) (next_line_piece task n fits)
    (and_then tt (facts, tt) (colon_piece task act.Nothing)
    (and_last facts (gap_after 10 refl (λ rest. tt) (quoted_facts_piece task facts named proper))) (λ rest may. tt)) (λ rest may. refl))

-- texts of a case, in two orders
case_order : (i a l c q f s e : Text) → (i ++ a) ++ ((l ++ (c ++ (q ++ f))) ++ ((s ++ e) ++ [])) ≡ (i ++ a ++ l ++ c ++ q ++ f) ++ s ++ e
case_order i a l c q f s e = simp (append_assoc, append-nil)

-- a case
pub case_piece : (task : CitedTask) (level n : ℕ) (facts : List NamedAtom) (body : BodyText) (steps end : Text) → n ≤ most_number → AtomsAreNamed facts →
    AtomsAreProper facts → Gives Any (steps ++ end) (Spells task (Row (rule.Body (n + 1))) body) →
    Gives Any (case_line level n facts ++ steps ++ end) (Spells task (Row (rule.Case n)) (case_with facts body))
case_piece task level n facts body steps end fits named proper p =
    same_as (case_order (indent (level + 1)) (codes "assume ") (line_label n) (codes ": ") (quoted (facts_text (map atom_text facts))) line_feed steps end)
    (rule_piece task (rule.Case n) (inl tt) (tt, (facts, (body, (tt, tt)))) (case_with facts body)
    (λ lexed values mean. λ i. case_with (mean.1.0 i) (mean.1.1.0 i))
    (and_then tt (facts, (body, (tt, tt))) (indented (level + 1) (led_keyword task fixed.Assume act.BeginCase refl))
    (and_then facts (body, (tt, tt)) (head_piece task n facts fits named proper)
    (and_then body (tt, tt) p (and_last tt (does_piece task pass.AddCase)) (λ rest may. tt)) (λ rest may. tt)) (λ rest may. tt)))

-- a further case
pub next_case_piece : (task : CitedTask) (level n : ℕ) (c : CaseText) (cs : List CaseText) (first others : Text) →
    Gives Any first (Spells task (Row (rule.Case n)) c) → Gives Any others (Spells task (Row (rule.MoreCases n)) cs) →
    Gives Any (next_text level ++ (first ++ others)) (Spells task (Row (rule.MoreCases n)) (c ∷ cs))
next_case_piece task level n c cs first others one more =
    rule_piece task (rule.MoreCases n) (inr (inl tt)) (tt, (c, (cs, tt))) (c ∷ cs)
    (λ lexed values mean. same_list values.1.0 c values.1.1.0 cs mean.1.0 mean.1.1.0)
    (and_then tt (c, (cs, tt)) (gap_after 10 refl (λ rest. refl) (indented (level + 1) (keyword_piece task fixed.Next act.Nothing refl)))
    (and_then c (cs, tt) one (and_last cs more) (λ rest may. tt)) (λ rest may. tt))

-- the words in brackets behind `proof`
by_cases_piece : (task : CitedTask) → Gives Any (codes "(elim disjE)" ++ line_feed) (Spells task (Row rule.ByCases) tt)
by_cases_piece task =
    rule_piece task rule.ByCases (inl tt) (tt, (tt, (tt, (tt, tt)))) tt (λ lexed values mean. refl)
    (and_then tt (tt, (tt, (tt, tt))) (sign_piece task fixed.OpenParenthesis act.Nothing open_parenthesis_gives)
    (and_then tt (tt, (tt, tt)) (led_keyword task fixed.Elim act.Nothing refl)
    (and_then tt (tt, tt) (keyword_piece task fixed.DisjE act.Nothing refl)
    (and_last tt (gap_after 10 refl (λ rest. tt) (sign_piece task fixed.CloseParenthesis act.Nothing close_parenthesis_gives))) (λ rest may. refl)) (λ rest may. tt))
    (λ rest may. refl))

-- texts of a split, in two orders
split_order : (t u s f i w first more q : Text) →
    t ++ (u ++ ((s ++ f) ++ (i ++ (w ++ (f ++ (first ++ (more ++ ((i ++ q) ++ f)))))))) ≡ (t ++ (u ++ (s ++ [])) ++ f ++ i ++ w ++ f) ++ (first ++ more) ++ (i ++ q ++ f)
split_order t u s f i w first more q = simp (append_assoc, append-nil)

-- the split of a line with these cases
abbrev split_of : CaseText → List CaseText → ℕ → EndText
split_of c cs line = Cs line (c ∷ cs)

-- a split of one case and further ones
pub split_piece : (task : CitedTask) (level n line : ℕ) (c : CaseText) (cs : List CaseText) (first others : Text) → n ≤ most_number → line < n →
    Gives Any first (Spells task (Row (rule.Case n)) c) → Gives Any others (Spells task (Row (rule.MoreCases n)) cs) →
    Gives Any (split_text level line ++ (first ++ others) ++ qed_text (level + 1)) (Spells task (Row (rule.Finish n)) (Cs line (c ∷ cs)))
split_piece task level n line c cs first others fits below one more =
    same_as (ap (λ (t : Text). thesis_text level ++ (codes " using" ++ (((codes " " ++ line_label line) ++ line_feed) ++ t)))
    (append_assoc (indent (level + 1)) (codes "proof ") ((codes "(elim disjE)" ++ line_feed) ++ (first ++ (others ++ ((indent (level + 1) ++ codes "qed") ++ line_feed))))) ∙
    split_order (thesis_text level) (codes " using") (codes " " ++ line_label line) line_feed (indent (level + 1)) (codes "proof (elim disjE)") first others (codes "qed"))
    (finish_piece task level n (Cs line (c ∷ cs)) _
    (rule_piece task (rule.AfterThesis n) (inl tt) (tt, (line, (split_of c cs, tt))) (Cs line (c ∷ cs))
    (λ lexed values mean. λ i. (mean.1.1.0 i) (mean.1.0 i))
    (and_then tt (line, (split_of c cs, tt)) (using_piece task)
    (and_then line (split_of c cs, tt) (gap_after 10 refl (λ rest. refl) (blank_before (split_line_piece task n line below (omega arith)))) (and_last (split_of c cs)
    (rule_piece task (rule.AfterLine n) (inl tt) (tt, (tt, (c, (cs, (tt, tt))))) (split_of c cs)
    (λ lexed values mean. λ i. split_of (mean.1.1.0 i) (mean.1.1.1.0 i))
    (and_then tt (tt, (c, (cs, (tt, tt)))) (indented (level + 1) (led_keyword task fixed.Proof act.BeginSplit refl))
    (and_then tt (c, (cs, (tt, tt))) (by_cases_piece task)
    (and_then c (cs, (tt, tt)) one
    (and_then cs (tt, tt) more
    (and_last tt (gap_after 10 refl (λ rest. refl) (indented (level + 1) (keyword_piece task fixed.Qed act.EndSplit refl)))) (λ rest may. tt)) (λ rest may. tt))
    (λ rest may. tt)) (λ rest may. tt)))) (λ rest may. tt)) (λ rest may. refl))))
