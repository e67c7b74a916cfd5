-- How code writes the cases of a split one after another.
use Rattle.std.proofs.Common.{◌≡◌, ℕ, ◌+◌, suc, List, [], ◌∷◌, ◌++◌, length, drop, slice_get, Some, refl, ap, sym, ◌∙◌, subst, add-one, append_assoc}
use Rattle.std.specs.List.{AllByRecursion}
use Rattle.text_core.specs.Names.{Text}
use Rattle.tptp_lexer.specs.Written.{joined_texts}
use Rattle.tptp_lexer.proofs.Laws.{led}
use Rattle.logic_core.specs.declared.form.Atom.{Atom}
use Rattle.vernacular_tree.specs.Contexts.{with_facts}
use Rattle.vernacular_tree.specs.declared.context.Context.{Context}
use Rattle.vernacular_tree.specs.declared.tree.Body.{Body}
use Rattle.vernacular_tree.specs.declared.tree.End as tree
use Rattle.vernacular_tree.specs.declared.tree.End.TheBlock.{shape-the_row-Body-0}
use Rattle.vernacular_tree.proofs.Laws.{row_of, Cs_opens}
use Rattle.coherent_form.specs.Tasks.{CitedTask}
use Rattle.proof_text.specs.Branches.{named_facts}
use Rattle.proof_text.specs.Printing.{printed_facts}
use Rattle.proof_text.specs.ScriptOf.{names_in, after_steps, lists_in, first_list, other_lists}
use Rattle.proof_text.specs.Showing.{IsInside}
use Rattle.proof_text.specs.declared.body.NamedAtom.{NamedAtom}
use Rattle.proof_text.proofs.Inside.{case_below}
use Rattle.proof_text.proofs.Laws.{first_dropped, others_dropped}
use Rattle.proof_text.proofs.PrintedLines.{facts_shown}
use Rattle.isar_text.specs.Bodies.{split_text, next_text, qed_text, case_line, steps_text, body_text, end_text, case_texts}
use Rattle.isar_text.specs.Named.{BodyFits, EndFits, BranchesFit}
use Rattle.isar_text.specs.Telling.{between, branch_text, branch_texts}

-- three texts one behind the other
pub three_put : (out a b c one two all : Text) → one ≡ out ++ a → two ≡ one ++ b → all ≡ two ++ c → all ≡ out ++ ((a ++ b) ++ c)
three_put out a b c one two all one_is two_is all_is =
    all_is ∙ ap (λ (t : Text). t ++ c) (two_is ∙ ap (λ (t : Text). t ++ b) one_is ∙ append_assoc out a b) ∙ append_assoc out (a ++ b) c

-- the texts of the row of a list of bodies
row_texts : (level : ℕ) (task : CitedTask) (context : Context) (bs : List Body) (lists : List (List Atom))
    → case_texts level task (row_of bs) lists context ≡ branch_texts level task context bs lists
unfolding row_of shape-the_row-Body-0
row_texts level task context [] lists = refl
row_texts level task context (b ∷ bs) lists =
    let inner : Context = with_facts context (first_list lists) in
    let front : Text = case_line level (length context.lines) (named_facts task.tables (names_in task context) (first_list lists)) in
    let steps : Text = steps_text level task b.steps inner in
    let end : Text = end_text level task b.end (after_steps task b.steps inner) in
    ap (λ (ts : List Text). ((front ++ steps) ++ end) ∷ ts) (row_texts level task context bs (other_lists lists))
    ∙ ap (λ (t : Text). t ∷ branch_texts level task context bs (other_lists lists)) (append_assoc front steps end)

-- the text of a split that code builds
pub Cs_told : (task : CitedTask) (level : ℕ) (context : Context) (end : tree.End) (number : ℕ) (bs seen : List Body) (out split cases all : Text)
    → end ≡ tree.Cs number bs → seen ≡ bs → split ≡ out ++ split_text level number
    → cases ≡ split ++ joined_texts (next_text level) (branch_texts (level + 1) task context seen (lists_in (slice_get context.lines number)))
    → all ≡ cases ++ qed_text (level + 1) → all ≡ out ++ end_text level task end context
Cs_told task level context end number bs seen out split cases all end_is same split_is cases_are all_is =
    let ls : List (List Atom) = lists_in (slice_get context.lines number) in
    let texts : branch_texts (level + 1) task context seen ls ≡ case_texts (level + 1) task (row_of bs) ls context
    = ap (λ (cs : List Body). branch_texts (level + 1) task context cs ls) same ∙ sym (row_texts (level + 1) task context bs ls) in
    three_put out (split_text level number) (joined_texts (next_text level) (case_texts (level + 1) task (row_of bs) ls context)) (qed_text (level + 1)) split cases all
    split_is (cases_are ∙ ap (λ (ts : List Text). split ++ joined_texts (next_text level) ts) texts) all_is
    ∙ ap (λ (t : tree.End). out ++ end_text level task t context) (sym (end_is ∙ Cs_opens number bs))

-- the bodies of a row fit
row_fits : (bs : List Body) → AllByRecursion BodyFits bs → BranchesFit (row_of bs)
unfolding row_of shape-the_row-Body-0
row_fits [] h = tt
row_fits (b ∷ bs) h = (h.0, row_fits bs h.1)

-- those of a split that code builds do
pub Cs_fits : (end : tree.End) (number : ℕ) (bs seen : List Body) → end ≡ tree.Cs number bs → seen ≡ bs → AllByRecursion BodyFits seen → EndFits end
Cs_fits end number bs seen end_is same h =
    subst EndFits (sym (end_is ∙ Cs_opens number bs)) (row_fits bs (subst (AllByRecursion BodyFits) same h))

-- the case of the first of the bodies that are left is behind those before
pub next_branch : (task : CitedTask) (level : ℕ) (context : Context) (n : ℕ) (body : Body) (rest left : List Body) → left ≡ body ∷ rest
    → (lists : List (List Atom)) (facts : List Atom) → slice_get lists n ≡ Some facts → (before after separator out middle longer all : Text)
    → after ≡ separator → middle ≡ out ++ before → longer ≡ middle ++ branch_text level task context body facts
    → out ++ led before separator (branch_texts level task context left (drop n lists)) ≡ all
    → longer ++ led after separator (branch_texts level task context rest (drop (n + 1) lists)) ≡ all
next_branch task level context n body rest left left_is lists facts at before after separator out middle longer all after_is middle_is longer_is so_far =
    let first = first_dropped lists n facts at in
    let others = others_dropped lists n facts at in
    let own : Text = branch_text level task context body facts in
    let more : Text = led separator separator (branch_texts level task context rest (drop (n + 1) lists)) in
    ap (λ (t : Text). longer ++ led t separator (branch_texts level task context rest (drop (n + 1) lists))) after_is
    ∙ ap (λ (t : Text). t ++ more) (longer_is ∙ ap (λ (t : Text). t ++ own) middle_is)
    ∙ append_assoc (out ++ before) own more
    ∙ append_assoc out before (own ++ more)
    ∙ (λ i. out ++ (before ++ (branch_text level task context body (sym first i) ++
    led separator separator (branch_texts level task context rest (sym others i)))))
    ∙ ap (λ (bs : List Body). out ++ led before separator (branch_texts level task context bs (drop n lists))) (sym left_is)
    ∙ so_far

-- what is appended for a case
pub case_told : (task : CitedTask) (level number : ℕ) (context : Context) (facts : List Atom) → IsInside task (with_facts context facts)
    → number ≡ length context.lines → (named : List NamedAtom) → named ≡ printed_facts task facts → (after : Context) → after ≡ with_facts context facts
    → (body : Body) (out middle all : Text) → middle ≡ out ++ case_line level number named → all ≡ middle ++ body_text level task body after
    → all ≡ out ++ branch_text level task context body facts
case_told task level number context facts inside number_is named named_is after after_is body out middle all middle_is all_is =
    let shown = named_is ∙ sym (facts_shown task context.elements facts (case_below task context facts inside)) in
    all_is ∙ (λ i. middle_is i ++ body_text level task body (after_is i))
    ∙ (λ i. (out ++ case_line level (number_is i) (shown i)) ++ body_text level task body (with_facts context facts))
    ∙ append_assoc out (case_line level (length context.lines) (named_facts task.tables (names_in task context) facts)) (body_text level task body (with_facts context facts))

-- what is between two cases stands before the next one
pub between_next : (level case : ℕ) → between level (case + 1) ≡ next_text level
between_next level case = rw add-one refl
