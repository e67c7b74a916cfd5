-- How code writes the branches of a split one after another.
use Rattle.std.proofs.Common.{◌≡◌, ℕ, ◌+◌, suc, List, [], ◌∷◌, ◌++◌, drop, slice_get, Some, refl, ap, sym, ◌∙◌, append_assoc}
use Rattle.text_core.specs.Names.{Text}
use Rattle.logic_core.specs.declared.form.Atom.{Atom}
use Rattle.vernacular_tree.specs.Contexts.{with_facts}
use Rattle.vernacular_tree.specs.declared.context.Context.{Context}
use Rattle.vernacular_tree.specs.declared.tree.Body.{Body}
use Rattle.vernacular_tree.specs.declared.tree.End as tree
use Rattle.vernacular_tree.specs.declared.tree.End.TheBlock.{shape-the_row-Body-0}
use Rattle.vernacular_tree.specs.declared.context.Line.TheVariants.{Cases}
use Rattle.vernacular_tree.proofs.Laws.{row_of, Cs_opens}
use Rattle.coherent_form.specs.Tasks.{CitedTask}
use Rattle.proof_text.specs.ScriptOf.{after_steps, lists_in, first_list, other_lists}
use Rattle.proof_text.proofs.Laws.{first_dropped, others_dropped}
use Rattle.proof_text.specs.Printing.{printed_facts, printed_line}
use Rattle.english_text.specs.Sentences.{case_text, split_text}
use Rattle.english_text.specs.English.{steps_text, end_text, cases_text}
use Rattle.english_text.specs.Telling.{branch_text, branches_text}

-- the text of the row of a list of bodies
row_text : (task : CitedTask) (level : ℕ) (context : Context) (bs : List Body) (lists : List (List Atom))
    → cases_text task level (row_of bs) lists context ≡ branches_text task level context bs lists
unfolding row_of shape-the_row-Body-0
row_text task level context [] lists = refl
row_text task level context (b ∷ bs) lists =
    let inner : Context = with_facts context (first_list lists) in
    let front : Text = case_text level (printed_facts task (first_list lists)) in
    let steps : Text = steps_text task (suc level) b.steps inner in
    let end : Text = end_text task (suc level) b.end (after_steps task b.steps inner) in
    ap (λ (t : Text). front ++ steps ++ end ++ t) (row_text task level context bs (other_lists lists))
    ∙ ap (λ (t : Text). t ++ branches_text task level context bs (other_lists lists)) (append_assoc front steps end)

-- the text of a split that code builds
pub Cs_told : (task : CitedTask) (level : ℕ) (context : Context) (end : tree.End) (number : ℕ) (bs seen : List Body) (out split all : Text)
    → end ≡ tree.Cs number bs → seen ≡ bs → split ≡ out ++ split_text level (printed_line task (Cases (lists_in (slice_get context.lines number))))
    → all ≡ split ++ branches_text task level context seen (lists_in (slice_get context.lines number))
    → all ≡ out ++ end_text task level end context
Cs_told task level context end number bs seen out split all end_is same split_is all_is =
    let ls : List (List Atom) = lists_in (slice_get context.lines number) in
    all_is
    ∙ (λ i. split_is i ++ branches_text task level context (same i) ls)
    ∙ append_assoc out (split_text level (printed_line task (Cases ls))) (branches_text task level context bs ls)
    ∙ ap (λ (t : Text). out ++ (split_text level (printed_line task (Cases ls)) ++ t)) (sym (row_text task level context bs ls))
    ∙ ap (λ (t : tree.End). out ++ end_text task level t context) (sym (end_is ∙ Cs_opens number bs))

-- the case of the first of the branches that are left is behind those before
pub next_branch : (task : CitedTask) (level : ℕ) (context : Context) (n : ℕ) (branch : Body) (rest left : List Body) → left ≡ branch ∷ rest
    → (lists : List (List Atom)) (facts : List Atom) → slice_get lists n ≡ Some facts → (out longer all : Text)
    → longer ≡ out ++ branch_text task level context branch facts
    → out ++ branches_text task level context left (drop n lists) ≡ all
    → longer ++ branches_text task level context rest (drop (n + 1) lists) ≡ all
next_branch task level context n branch rest left left_is lists facts at out longer all longer_is so_far =
    let first = first_dropped lists n facts at in
    let others = others_dropped lists n facts at in
    ap (λ (t : Text). t ++ branches_text task level context rest (drop (n + 1) lists)) longer_is
    ∙ append_assoc out (branch_text task level context branch facts) (branches_text task level context rest (drop (n + 1) lists))
    ∙ (λ i. out ++ (branch_text task level context branch (sym first i) ++ branches_text task level context rest (sym others i)))
    ∙ ap (λ (bs : List Body). out ++ branches_text task level context bs (drop n lists)) (sym left_is)
    ∙ so_far
