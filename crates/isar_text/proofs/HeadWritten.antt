-- How code writes the head.
use Rattle.std.proofs.Common.{◌≡◌, ℕ, suc, ◌+◌, ◌-◌, ◌<◌, List, [], ◌∷◌, ◌++◌, codes, map, length, drop, get_or, refl, ap, sym, ◌∙◌, subst, arith, append_assoc}
use Rattle.std.specs.List.{AllByRecursion}
use Rattle.std.specs.Fmt.{decimal}
use Rattle.text_core.specs.Names.{Text}
use Rattle.text_core.specs.Numbered.{Tables}
use Rattle.logic_core.specs.declared.form.Atom.{Atom}
use Rattle.logic_core.specs.declared.form.Form.{Form}
use Rattle.vernacular_tree.specs.Contexts.{counted, parameters, atom_at, start_context}
use Rattle.vernacular_tree.specs.Carries.{HasElements}
use Rattle.coherent_form.specs.Kept.{IsRight}
use Rattle.coherent_form.specs.Tasks.{CitedTask, proof_task}
use Rattle.proof_text.specs.declared.body.NamedAtom.{NamedAtom}
use Rattle.proof_text.specs.Branches.{named_facts}
use Rattle.proof_text.specs.Printing.{printed, printed_facts}
use Rattle.proof_text.specs.ScriptOf.{names_in}
use Rattle.proof_text.specs.Showing.{FactFits}
use Rattle.proof_text.proofs.Inside.{start_inside, facts_at_fit}
use Rattle.proof_text.proofs.Laws.{dropped}
use Rattle.proof_text.proofs.PrintedLines.{facts_shown}
use Rattle.isar_text.specs.Names.{isar_name}
use Rattle.isar_text.specs.Formulas.{variable_text, bound_text, atom_text, form_text}
use Rattle.isar_text.specs.Heads.{element_text, form_label, line_feed, quoted, spaced, assumption_line, forms_text, start_facts}

-- the texts of the names of elements are those of the elements
pub names_texts : (task : CitedTask) (es : List ℕ) → map isar_name (map (printed task) es) ≡ map (element_text task) es
names_texts task [] = refl
names_texts task (e ∷ es) = ap (λ (ts : List Text). element_text task e ∷ ts) (names_texts task es)

-- a number of a row moves from those that follow to those so far
one_left : (number end : ℕ) → number < end → counted number (end - number) ≡ number ∷ counted (number + 1) (end - (number + 1))
one_left number end below =
    let one : end - number ≡ suc (end - (number + 1)) = omega arith in
    ap (counted number) one

-- the next variable
pub next_bound : (out longer all : Text) (number end : ℕ) → number < end → longer ≡ out ++ (codes " " ++ variable_text number)
    → out ++ bound_text (counted number (end - number)) ≡ all → longer ++ bound_text (counted (number + 1) (end - (number + 1))) ≡ all
next_bound out longer all number end below is so_far =
    ap (λ (t : Text). t ++ bound_text (counted (number + 1) (end - (number + 1)))) is
    ∙ append_assoc out (codes " " ++ variable_text number) (bound_text (counted (number + 1) (end - (number + 1))))
    ∙ ap (λ (ns : List ℕ). out ++ bound_text ns) (sym (one_left number end below)) ∙ so_far

-- the next element
pub next_element : (task : CitedTask) (out longer all : Text) (number end : ℕ) → number < end → longer ≡ out ++ (codes " " ++ element_text task number)
    → out ++ spaced (map (element_text task) (counted number (end - number))) ≡ all
    → longer ++ spaced (map (element_text task) (counted (number + 1) (end - (number + 1)))) ≡ all
next_element task out longer all number end below is so_far =
    ap (λ (t : Text). t ++ spaced (map (element_text task) (counted (number + 1) (end - (number + 1))))) is
    ∙ append_assoc out (codes " " ++ element_text task number) (spaced (map (element_text task) (counted (number + 1) (end - (number + 1)))))
    ∙ ap (λ (ns : List ℕ). out ++ spaced (map (element_text task) ns)) (sym (one_left number end below)) ∙ so_far

-- the facts of line 0 that were read
module _ (task : CitedTask) (right : IsRight task) (elements : List ℕ) (elements_are : elements ≡ parameters (proof_task task)) (premises facts : List Atom)
    (premises_are : premises ≡ task.goal.premises) (facts_are : facts ≡ map (atom_at elements) premises) where
  facts_same : facts ≡ map (atom_at (parameters (proof_task task))) task.goal.premises
  facts_same = facts_are ∙ (λ i. map (atom_at (elements_are i)) (premises_are i))

  -- they fit
  pub start_fits : AllByRecursion (FactFits task.tables) facts
  start_fits =
      subst (AllByRecursion (FactFits task.tables)) (sym facts_same)
      (facts_at_fit task.tables (parameters (proof_task task)) task.goal.premises right.goal.premises)

  -- their texts are those of line 0
  pub start_written : (named : List NamedAtom) → named ≡ printed_facts task facts → map atom_text named ≡ start_facts task
  start_written named is =
      let below : AllByRecursion (HasElements (start_context (proof_task task)).elements) (map (atom_at (parameters (proof_task task))) task.goal.premises)
      = (start_inside task right).is.lines.0 in
      ap (map atom_text) (is ∙ ap (printed_facts task) facts_same
      ∙ sym (facts_shown task (start_context (proof_task task)).elements (map (atom_at (parameters (proof_task task))) task.goal.premises) below))

-- nine texts one behind the other
nine_order : (out a e n f s w q g r t u : Text) →
    (((((((out ++ a) ++ e) ++ n) ++ f) ++ s) ++ (w ++ q)) ++ g) ++ (q ++ (r ++ (t ++ u))) ≡
    out ++ (((((((((a ++ e) ++ n) ++ f) ++ s) ++ w) ++ (q ++ (g ++ q))) ++ r) ++ t) ++ u)
nine_order out a e n f s w q g r t u = simp append_assoc

-- what the pushes of the head make
pub head_put : (out elements forms start goal o1 o2 o3 o4 o5 o6 o7 all : Text) → o1 ≡ out ++ codes "lemma larus:\n  fixes" → o2 ≡ o1 ++ elements
    → o3 ≡ o2 ++ line_feed → o4 ≡ o3 ++ forms → o5 ≡ o4 ++ start → o6 ≡ o5 ++ codes "  shows \"" → o7 ≡ o6 ++ goal → all ≡ o7 ++ codes "\"\nproof -\n"
    → all ≡ out ++ (codes "lemma larus:" ++ line_feed ++ codes "  fixes" ++ elements ++ line_feed ++ forms ++ start ++ codes "  shows " ++ quoted goal ++
    line_feed ++ codes "proof -" ++ line_feed)
head_put out elements forms start goal o1 o2 o3 o4 o5 o6 o7 all e1 e2 e3 e4 e5 e6 e7 e8 =
    e8 ∙ ap (λ (t : Text). t ++ codes "\"\nproof -\n") (e7 ∙ ap (λ (t : Text). t ++ goal) (e6 ∙ ap (λ (t : Text). t ++ codes "  shows \"")
    (e5 ∙ ap (λ (t : Text). t ++ start) (e4 ∙ ap (λ (t : Text). t ++ forms) (e3 ∙ ap (λ (t : Text). t ++ line_feed) (e2 ∙ ap (λ (t : Text). t ++ elements) e1))))))
    ∙ nine_order out (codes "lemma larus:\n  fixes") elements line_feed forms start (codes "  shows ") (34 ∷ []) goal line_feed (codes "proof -") line_feed

-- the line of the next form
pub next_form : (tables : Tables) (forms : List Form) (n : ℕ) (form : Form) → n < length forms → form ≡ get_or forms n form → (out longer all : Text)
    → longer ≡ out ++ assumption_line (form_label n) (form_text tables form) → out ++ forms_text tables n (drop n forms) ≡ all
    → longer ++ forms_text tables (n + 1) (drop (n + 1) forms) ≡ all
next_form tables forms n form below is out longer all longer_is so_far =
    ap (λ (t : Text). t ++ forms_text tables (n + 1) (drop (n + 1) forms)) longer_is
    ∙ append_assoc out (assumption_line (form_label n) (form_text tables form)) (forms_text tables (n + 1) (drop (n + 1) forms))
    ∙ ap (λ (fs : List Form). out ++ forms_text tables n fs) (sym (dropped forms n form below is)) ∙ so_far
