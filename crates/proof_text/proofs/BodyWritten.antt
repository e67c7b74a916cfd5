-- How code writes the cases of a split, and takes the context back behind a body.
use Rattle.std.proofs.Common.{◌≡◌, ℕ, zero, suc, ◌+◌, List, [], ◌∷◌, ◌++◌, length, drop, take, slice_get, Some, refl, ap, sym, ◌∙◌, subst, add-one, append_assoc, append-nil}
use Rattle.text_core.proofs.Laws.{each_get, value_same}
use Rattle.logic_core.specs.declared.form.Atom.{Atom}
use Rattle.vernacular_tree.specs.Contexts.{with_facts}
use Rattle.vernacular_tree.specs.Rules.{IsProof, Closes, EachProves}
use Rattle.vernacular_tree.specs.declared.context.Line as Line
use Rattle.vernacular_tree.specs.declared.context.Line.TheVariants as line
use Rattle.vernacular_tree.specs.declared.context.Context.{Context}
use Rattle.vernacular_tree.specs.declared.tree.Mp.{Mp}
use Rattle.vernacular_tree.specs.declared.tree.Body.{Body}
use Rattle.vernacular_tree.specs.declared.tree.End as tree
use Rattle.vernacular_tree.specs.declared.tree.End.TheBlock.{shape-the_row-Body-0}
use Rattle.vernacular_tree.proofs.Laws.{row_of, Cs_opens}
use Rattle.coherent_form.specs.Tasks.{CitedTask, proof_task}
use Rattle.proof_text.specs.declared.body.BodyText.{BodyText}
use Rattle.proof_text.specs.declared.body.CaseText.{CaseText}
use Rattle.proof_text.specs.declared.body.EndText.{Cs}
use Rattle.proof_text.specs.declared.body.NamedAtom.{NamedAtom}
use Rattle.proof_text.specs.declared.part.Edition as Edition
use Rattle.proof_text.specs.Branches.{given_line}
use Rattle.proof_text.specs.ScriptOf.{form_of, lists_in, first_list, other_lists, after_step_of, after_steps, body_of, end_of, cases_of}
use Rattle.proof_text.specs.Showing.{IsInside, ListProves, case_of, each_case}
use Rattle.proof_text.specs.Printing.{printed_facts}
use Rattle.proof_text.proofs.Inside.{cases_inside, case_below}
use Rattle.proof_text.proofs.PrintedLines.{facts_shown}

-- a front of the length of the first list is the first list
take_front : {X : Type 0} (xs ys : List X) → take (length xs) (xs ++ ys) ≡ xs
take_front [] ys = refl
take_front (x ∷ xs) ys = ap (λ zs. x ∷ zs) (take_front xs ys)

-- the lines after steps begin with those before
steps_front : (task : CitedTask) (steps : List Mp) (context : Context) → (more : List Line.Line) × ((after_steps task steps context).lines ≡ context.lines ++ more)
steps_front task [] context = ([], sym (append-nil context.lines))
steps_front task (step ∷ steps) context =
    let rest = steps_front task steps (after_step_of task context step) in
    let given : Line.Line = given_line context (form_of task step.form) step.args in
    (given ∷ rest.0, rest.1 ∙ append_assoc context.lines (given ∷ []) rest.0)

-- the context is taken back behind a body
pub taken_back : (task : CitedTask) (steps : List Mp) (context after : Context) (n : ℕ) (lines : List Line.Line) → after ≡ after_steps task steps context
    → n ≡ length context.lines → lines ≡ take n after.lines → record { elements = context.elements; lines = lines } ≡ context
taken_back task steps context after n lines after_is n_is is =
    let front = steps_front task steps context in
    let back : lines ≡ context.lines
    = is ∙ (λ i. take (n_is i) (after_is i).lines) ∙ ap (take (length context.lines)) front.1 ∙ take_front context.lines front.0 in
    λ i. record { elements = context.elements; lines = back i }

-- the cases of a list of branches are those of its row
cases_row : (e : Edition.Edition) (task : CitedTask) (context : Context) (bs : List Body) (lists : List (List Atom))
    → cases_of e task (row_of bs) lists context ≡ each_case e task context bs lists
unfolding row_of shape-the_row-Body-0
cases_row e task context [] lists = refl
cases_row e task context (b ∷ bs) lists =
    ap (λ (cs : List CaseText). case_of e task context b (first_list lists) ∷ cs) (cases_row e task context bs (other_lists lists))

-- the end that is written for a split that code builds
pub Cs_written : (e : Edition.Edition) (task : CitedTask) (context : Context) (end : tree.End) (number : ℕ) (bs seen : List Body) (cases : List CaseText)
    → end ≡ tree.Cs number bs → seen ≡ bs → cases ≡ each_case e task context seen (lists_in (slice_get context.lines number))
    → Cs number cases ≡ end_of e task end context
Cs_written e task context end number bs seen cases end_is same is =
    let ls : List (List Atom) = lists_in (slice_get context.lines number) in
    let written : cases ≡ cases_of e task (row_of bs) ls context
    = is ∙ ap (λ (cs : List Body). each_case e task context cs ls) same ∙ sym (cases_row e task context bs ls) in
    ap (Cs number) written
    ∙ ap (λ (t : tree.End). end_of e task t context) (sym (end_is ∙ Cs_opens number bs))

-- a row that proves each of the lists does so as a list of bodies
list_proves : (task : CitedTask) (bs : List Body) (lists : List (List Atom)) (context : Context) → EachProves (proof_task task) (row_of bs) lists context
    → ListProves task bs lists context
unfolding row_of shape-the_row-Body-0
list_proves task [] lists context h = h
list_proves task (b ∷ bs) lists context h = (h.0, h.1, h.2, h.3, list_proves task bs h.1 context h.4)

-- where a split that code builds closes a branch, its bodies prove each of the cases of its line
pub Cs_closes : (task : CitedTask) (context : Context) (end : tree.End) (number : ℕ) (bs seen : List Body) → end ≡ tree.Cs number bs → seen ≡ bs
    → Closes (proof_task task) end context
    → (lists : List (List Atom)) × (slice_get context.lines number ≡ Some (line.Cases lists)) × ListProves task seen lists context
Cs_closes task context end number bs seen end_is same h =
    let opened = subst (λ (t : tree.End). Closes (proof_task task) t context) (end_is ∙ Cs_opens number bs) h in
    (opened.0, opened.1, subst (λ (cs : List Body). ListProves task cs opened.0 context) (sym same) (list_proves task bs opened.0 context opened.2))

-- a list whose rest begins with a member has it at that number
get_dropped : {X : Type 0} (xs : List X) (n : ℕ) (x : X) (rest : List X) → drop n xs ≡ x ∷ rest → slice_get xs n ≡ Some x
get_dropped [] zero x rest is = absurd (cc)
get_dropped [] (suc n) x rest is = absurd (cc)
get_dropped (y ∷ xs) zero x rest is = let same : y ≡ x = cc in ap (λ z. Some z) same
get_dropped (y ∷ xs) (suc n) x rest is = get_dropped xs n x rest is

-- what is left behind the member
drop_further : {X : Type 0} (xs : List X) (n : ℕ) (x : X) (rest : List X) → drop n xs ≡ x ∷ rest → drop (n + 1) xs ≡ rest
drop_further [] zero x rest is = absurd (cc)
drop_further [] (suc n) x rest is = absurd (cc)
drop_further (y ∷ xs) zero x rest is = let same : xs ≡ rest = cc in same
drop_further (y ∷ xs) (suc n) x rest is = rw add-one (let further = drop_further xs n x rest is in rw add-one at further)

-- the list with a number is the first of those from there on
pub first_dropped : (lists : List (List Atom)) (n : ℕ) (facts : List Atom) → slice_get lists n ≡ Some facts → first_list (drop n lists) ≡ facts
first_dropped [] n facts is = absurd (cc)
first_dropped (list ∷ lists) zero facts is = value_same is
first_dropped (list ∷ lists) (suc n) facts is = first_dropped lists n facts is

-- the others are those behind it
pub others_dropped : (lists : List (List Atom)) (n : ℕ) (facts : List Atom) → slice_get lists n ≡ Some facts → other_lists (drop n lists) ≡ drop (n + 1) lists
others_dropped [] n facts is = absurd (cc)
others_dropped (list ∷ lists) zero facts is = refl
others_dropped (list ∷ lists) (suc n) facts is = rw add-one (let further = others_dropped lists n facts is in rw add-one at further)

module _ (task : CitedTask) (context : Context) (n : ℕ) (branch : Body) (rest left : List Body) (left_is : left ≡ branch ∷ rest)
    (lists : List (List Atom)) where
  -- the first of the branches that are left proves the list with its number, and the others the others
  pub branch_proves : ListProves task left (drop n lists) context → (facts : List Atom) × (slice_get lists n ≡ Some facts)
      × IsProof (proof_task task) (with_facts context facts) branch × ListProves task rest (drop (n + 1) lists) context
  branch_proves prove =
      let h = subst (λ (bs : List Body). ListProves task bs (drop n lists) context) left_is prove in (
        h.0,
        get_dropped lists n h.0 h.1 h.2,
        h.3,
        subst (λ (ls : List (List Atom)). ListProves task rest ls context) (sym (drop_further lists n h.0 h.1 h.2)) h.4,
      )

  -- the case of the first of the branches that are left is written behind those before
  pub next_case : (e : Edition.Edition) (cases longer all : List CaseText) (case : CaseText) (facts : List Atom) → slice_get lists n ≡ Some facts
      → case ≡ case_of e task context branch facts → longer ≡ cases ++ case ∷ []
      → cases ++ each_case e task context left (drop n lists) ≡ all → longer ++ each_case e task context rest (drop (n + 1) lists) ≡ all
  next_case e cases longer all case facts at is longer_is so_far =
      let first = first_dropped lists n facts at in
      let others = others_dropped lists n facts at in
      ap (λ (cs : List CaseText). cs ++ each_case e task context rest (drop (n + 1) lists)) longer_is
      ∙ append_assoc cases (case ∷ []) (each_case e task context rest (drop (n + 1) lists))
      ∙ (λ i. cases ++ is i ∷ each_case e task context rest (sym others i))
      ∙ (λ i. cases ++ case_of e task context branch (sym first i) ∷ each_case e task context rest (other_lists (drop n lists)))
      ∙ ap (λ (bs : List Body). cases ++ each_case e task context bs (drop n lists)) (sym left_is)
      ∙ so_far

  module _ (number : ℕ) (is : slice_get context.lines number ≡ Some (line.Cases lists)) (before : Context) (same : before ≡ context) where
    -- the line has the lists where the context is the same
    pub line_same : slice_get before.lines number ≡ Some (line.Cases lists)
    line_same = (λ i. slice_get (same i).lines number) ∙ is

    -- the facts that are found are those of the list with the number
    pub facts_found : (facts : List Atom) → slice_get (lists_in (slice_get before.lines number)) n ≡ Some facts → slice_get lists n ≡ Some facts
    facts_found facts at = subst (λ (ls : List (List Atom)). slice_get ls n ≡ Some facts) (ap lists_in line_same) at

    -- the case with these facts is inside the proof, and the branch is a proof of it
    pub case_ready : IsInside task context → ListProves task left (drop n lists) context → (facts : List Atom) → slice_get lists n ≡ Some facts
        → IsInside task (with_facts before facts) × IsProof (proof_task task) (with_facts before facts) branch
    case_ready inside prove facts at =
        let h = branch_proves prove in
        let one : h.0 ≡ facts = value_same (sym h.1 ∙ at) in
        subst (λ (b : Context). IsInside task (with_facts b facts) × IsProof (proof_task task) (with_facts b facts) branch) (sym same) (
          each_get (λ facts. IsInside task (with_facts context facts)) lists n facts (cases_inside task context number lists inside is) at,
          subst (λ (fs : List Atom). IsProof (proof_task task) (with_facts context fs) branch) one h.2,
        )

-- a case is written as it is shown
pub case_written : (e : Edition.Edition) (task : CitedTask) (context after : Context) (branch : Body) (facts : List Atom) (shown : List NamedAtom) (body : BodyText)
    → IsInside task (with_facts context facts) → after ≡ with_facts context facts → shown ≡ printed_facts task facts → body ≡ body_of e task branch after
    → record { shown = Some shown; body = body } ≡ case_of e task context branch facts
case_written e task context after branch facts shown body inside after_is shown_is body_is =
    let show = shown_is ∙ sym (facts_shown task context.elements facts (case_below task context facts inside)) in
    let written = body_is ∙ ap (body_of e task branch) after_is in
    λ i. record { shown = Some (show i); body = written i }
