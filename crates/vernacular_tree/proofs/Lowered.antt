-- Without a line of facts that stand before it, all that was known is still known.
use Rattle.std.proofs.Common.{◌≡◌, ℕ, zero, suc, ◌+◌, ◌-◌, ◌<◌, ◌≤◌, ◌⊎◌, inl, inr, ⊎_elim, List, [], ◌∷◌, ◌++◌, map, length, slice_get, Some, refl, ap, sym, ◌∙◌, subst, arith, append_assoc, append-nil, length-append, nat_lt, true, false, lt-ltb, le-ltb}
use Rattle.std.specs.List.{AllByRecursion}
use Rattle.text_core.specs.Lists.{SomeOf}
use Rattle.logic_core.specs.declared.form.Atom.{Atom}
use Rattle.logic_core.specs.declared.form.Form.{Form}
use Rattle.vernacular_tree.specs.Contexts.{Task, counted, parameters, atom_at, LineHas, Stands, line_of, with_facts, after_mp}
use Rattle.vernacular_tree.specs.Rules.{AreKnown, IsInstance, IsAnswer, StepsThen, Closes, EachProves, IsProof}
use Rattle.vernacular_tree.specs.Sizes.{size, sizes, end_size}
use Rattle.vernacular_tree.specs.Barren.{Barren, StepIsBarren, AfterSteps, EndHasBarren, BranchHasBarren, HasBarren, without_step, lower, lowered, lowered_branches, end_without, branch_without, without}
use Rattle.vernacular_tree.specs.declared.context.Line.{Line}
use Rattle.vernacular_tree.specs.declared.context.Line.TheVariants.{Facts, Cases, Falsum}
use Rattle.vernacular_tree.specs.declared.context.Context.{Context}
use Rattle.vernacular_tree.specs.declared.tree.Mp.{Mp}
use Rattle.vernacular_tree.specs.declared.tree.Body.{Body}
use Rattle.vernacular_tree.specs.declared.tree.End.{End, As, Efq, Cs', Row_of-Body, end_of-Body, more_of-Body}
use Rattle.text_core.proofs.Laws.{each_map, each_mapped, some_with, some_front, some_back, some_append}

-- a member may be left out where those before it stand for it
pub some_dropped : {X : Type 0} (P : X → Type 0) (before : List X) (x : X) (after : List X) → (P x → SomeOf P before)
    → SomeOf P (before ++ x ∷ after) → SomeOf P (before ++ after)
some_dropped P before x after instead h =
    ⊎_elim (some_front P before after)
    (⊎_elim (λ here. some_front P before after (instead here)) (some_back P before after))
    (some_append P before (x ∷ after) h)

-- the second context lacks the line with this number, whose facts stand before it
pub record Lowers (gone : ℕ) (context lacking : Context) : Type 0 where
  pub before : List Line
  pub after : List Line
  pub facts : List Atom
  pub lines : context.lines ≡ before ++ Facts facts ∷ after
  pub lacking_lines : lacking.lines ≡ before ++ after
  pub number : length before ≡ gone
  pub elements : context.elements ≡ lacking.elements
  pub stand : AllByRecursion (λ fact. SomeOf (LineHas fact) before) facts

-- a fact that stands still stands without the line
stands_lowered : (gone : ℕ) (context lacking : Context) → Lowers gone context lacking → (fact : Atom) → Stands context fact → Stands lacking fact
stands_lowered gone context lacking l fact h =
    rw l.lacking_lines (some_dropped (LineHas fact) l.before (Facts l.facts) l.after
    (λ here. some_with (λ other stands same. subst (λ (f : Atom). SomeOf (LineHas f) l.before) same stands) l.facts l.stand here)
    (rw l.lines at h))

-- a line of falsehood is still there without the line
falsum_lowered : (gone : ℕ) (context lacking : Context) → Lowers gone context lacking → SomeOf (λ line. line ≡ Falsum) context.lines
    → SomeOf (λ line. line ≡ Falsum) lacking.lines
falsum_lowered gone context lacking l h =
    rw l.lacking_lines (some_dropped (λ line. line ≡ Falsum) l.before (Facts l.facts) l.after (λ same. absurd (cc)) (rw l.lines at h))

-- a line of cases keeps its number before the line that is left out, and has one smaller by 1 after it
lower_below : (gone line : ℕ) → line ≤ gone → lower gone line ≡ line
lower_below gone line h = let test : nat_lt gone line ≡ false = le-ltb gone line h in rw test

-- a line after the one that is left out has a number smaller by 1
lower_above : (gone line : ℕ) → gone < line → lower gone line ≡ line - 1
lower_above gone line h = let test : nat_lt gone line ≡ true = lt-ltb gone line h in rw test

-- another member than the one left out keeps its number before it, or has one smaller by 1 after it
get_dropped : {X : Type 0} (before : List X) (x : X) (after : List X) (line : ℕ) (y : X) → (x ≡ y → ⊥) → slice_get (before ++ x ∷ after) line ≡ Some y
    → ((line < length before) × (slice_get (before ++ after) line ≡ Some y)) ⊎ ((length before < line) × (slice_get (before ++ after) (line - 1) ≡ Some y))
get_dropped [] x after zero y other h = absurd (other (let same : x ≡ y = cc in same))
get_dropped [] x after (suc line) y other h = let e : suc line - 1 ≡ line = omega arith in inr (omega arith, rw e h)
get_dropped (b ∷ before) x after zero y other h = inl (omega arith, h)
get_dropped (b ∷ before) x after (suc line) y other h =
    ⊎_elim (λ l. let low : line < length before = l.0 in inl (omega arith, l.1))
    (λ r. let high : length before < line = r.0 in let e : suc line - 1 ≡ suc (line - 1) = omega arith in inr (omega arith, rw e r.1))
    (get_dropped before x after line y other h)

-- a line of cases is at its lowered number where a line of facts is left out
get_lowered : (before after : List Line) (facts : List Atom) (line : ℕ) (lists : List (List Atom))
    → slice_get (before ++ Facts facts ∷ after) line ≡ Some (Cases lists) → slice_get (before ++ after) (lower (length before) line) ≡ Some (Cases lists)
get_lowered before after facts line lists h =
    ⊎_elim (λ l. rw (lower_below (length before) line (let low : line < length before = l.0 in omega arith)) l.1)
    (λ r. rw (lower_above (length before) line r.0) r.1)
    (get_dropped before (Facts facts) after line (Cases lists) (λ same. absurd (cc)) h)

-- a line of cases of the context is at its lowered number without the line
cases_lowered : (gone : ℕ) (context lacking : Context) → Lowers gone context lacking → (line : ℕ) (lists : List (List Atom))
    → slice_get context.lines line ≡ Some (Cases lists) → slice_get lacking.lines (lower gone line) ≡ Some (Cases lists)
cases_lowered gone context lacking l line lists h =
    rw (l.lacking_lines, ← l.number) (get_lowered l.before l.after l.facts line lists (rw l.lines at h))

-- elements that are known are known without the line
known_lowered : (gone : ℕ) (context lacking : Context) → Lowers gone context lacking → (count : ℕ) (args : List ℕ) → AreKnown context count args → AreKnown lacking count args
known_lowered gone context lacking l count args h = record {
  length_is = h.length_is;
  known = subst (λ (n : ℕ). AllByRecursion (λ e. e < n) args) l.elements h.known;
}

-- a form that may be applied may be applied without the line
instance_lowered : (gone : ℕ) (context lacking : Context) → Lowers gone context lacking → (form : Form) (args : List ℕ) → IsInstance context form args → IsInstance lacking form args
instance_lowered gone context lacking l form args h = record {
  args_known = known_lowered gone context lacking l form.universals args h.args_known;
  premises = each_map (λ atom. stands_lowered gone context lacking l (atom_at args atom)) form.premises h.premises;
}

-- one more line on both sides
longer_lowered : (gone : ℕ) (context lacking next next_lacking : Context) (line : Line) → Lowers gone context lacking → next.lines ≡ context.lines ++ line ∷ []
    → next_lacking.lines ≡ lacking.lines ++ line ∷ [] → next.elements ≡ next_lacking.elements → Lowers gone next next_lacking
longer_lowered gone context lacking next next_lacking line l e f same = record {
  before = l.before;
  after = l.after ++ line ∷ [];
  facts = l.facts;
  lines = e ∙ ap (λ (ls : List Line). ls ++ line ∷ []) l.lines ∙ append_assoc l.before (Facts l.facts ∷ l.after) (line ∷ []);
  lacking_lines = f ∙ ap (λ (ls : List Line). ls ++ line ∷ []) l.lacking_lines ∙ append_assoc l.before l.after (line ∷ []);
  number = l.number;
  elements = same;
  stand = l.stand;
}

-- after the same application on both sides, the second context still lacks the line
after_lowered : (gone : ℕ) (context lacking : Context) (form : Form) (args : List ℕ) → Lowers gone context lacking
    → Lowers gone (after_mp context form args) (after_mp lacking form args)
after_lowered gone context lacking form args l =
    longer_lowered gone context lacking (after_mp context form args) (after_mp lacking form args) _ l refl
    (ap (λ (n : ℕ). lacking.lines ++ line_of (map (map (atom_at (args ++ counted n form.existentials))) form.disjuncts) ∷ []) (sym l.elements))
    (ap (λ (n : ℕ). n + form.existentials) l.elements)

-- with the same facts added on both sides, the second context still lacks the line
facts_lowered : (gone : ℕ) (context lacking : Context) (facts : List Atom) → Lowers gone context lacking → Lowers gone (with_facts context facts) (with_facts lacking facts)
facts_lowered gone context lacking facts l =
    longer_lowered gone context lacking (with_facts context facts) (with_facts lacking facts) (Facts facts) l refl refl l.elements

module _ (task : Task) where
  -- steps that lead on in the context lead on without the line
  steps_lowered : (gone : ℕ) (steps : List Mp) (P Q : Context → Type 0) → ((c1 c2 : Context) → Lowers gone c1 c2 → P c1 → Q c2)
      → (context lacking : Context) → Lowers gone context lacking → StepsThen task steps P context → StepsThen task steps Q lacking
  steps_lowered gone [] P Q go context lacking l h = go context lacking l h
  steps_lowered gone (step ∷ steps) P Q go context lacking l h = (
    h.0,
    h.1,
    instance_lowered gone context lacking l h.0 step.args h.2,
    steps_lowered gone steps P Q go (after_mp context h.0 step.args) (after_mp lacking h.0 step.args) (after_lowered gone context lacking h.0 step.args l) h.3,
  )

  -- an answer in the context is an answer without the line
  answer_lowered : (gone : ℕ) (context lacking : Context) → Lowers gone context lacking → (disjunct : ℕ) (args : List ℕ) → IsAnswer task context disjunct args → IsAnswer task lacking disjunct args
  answer_lowered gone context lacking l disjunct args h = record {
    atoms = h.atoms;
    from_one = h.from_one;
    disjunct_is = h.disjunct_is;
    args_known = known_lowered gone context lacking l task.goal.existentials args h.args_known;
    stand = each_map (λ atom. stands_lowered gone context lacking l (atom_at (parameters task ++ args) atom)) h.atoms h.stand;
  }

  mutual
    -- an end closes without the line, with the numbers of its lines lowered
    end_lowered : (end : End) (gone : ℕ) (context lacking : Context) → Lowers gone context lacking → Closes task end context → Closes task (lowered gone end) lacking
    end_lowered (As disjunct args) gone context lacking l h = answer_lowered gone context lacking l disjunct args h
    end_lowered Efq gone context lacking l h = falsum_lowered gone context lacking l h
    end_lowered (Cs' line s row) gone context lacking l h =
        (h.0, cases_lowered gone context lacking l line h.0 h.1, row_lowered row gone h.0 context lacking l h.2)

    -- branches prove each case without the line, with the numbers of their lines lowered
    row_lowered : {n : _} (row : Row_of-Body n) (gone : ℕ) (lists : List (List Atom)) (context lacking : Context) → Lowers gone context lacking
        → EachProves task row lists context → EachProves task (lowered_branches gone row) lists lacking
    row_lowered end_of-Body gone lists context lacking l h = h
    row_lowered (more_of-Body steps end rest) gone lists context lacking l h = (
      h.0,
      h.1,
      h.2,
      steps_lowered gone steps (Closes task end) (Closes task (lowered gone end)) (end_lowered end gone)
          (with_facts context h.0) (with_facts lacking h.0) (facts_lowered gone context lacking h.0 l) h.3,
      row_lowered rest gone h.1 context lacking l h.4,
    )

  -- the barren step itself
  barren_lowers : (context : Context) (form : Form) (args : List ℕ) → Barren context form args → Lowers (length context.lines) (after_mp context form args) context
  barren_lowers context form args b =
      let none : counted context.elements form.existentials ≡ [] = rw b.none_new in
      let at : args ++ counted context.elements form.existentials ≡ args = rw none (append-nil args) in
      record {
        before = context.lines;
        after = [];
        facts = map (atom_at args) b.atoms;
        lines = rw (at, b.one);
        lacking_lines = sym (append-nil context.lines);
        number = refl;
        elements = let zero_new : form.existentials ≡ 0 = b.none_new in omega arith;
        stand = each_mapped (λ fact. SomeOf (LineHas fact) context.lines) (atom_at args) (λ atom stands also. stands) b.atoms b.stand b.stand;
      }

  -- there is one form at a number
  same_form : (f g : Form) (form : ℕ) → slice_get task.forms form ≡ Some f → slice_get task.forms form ≡ Some g → f ≡ g
  same_form f g form a b = let e : Some f ≡ Some g = sym a ∙ b in cc

  -- steps still lead on where the barren one is left out, with the numbers in the end lowered
  steps_without : (j gone : ℕ) (steps : List Mp) (end : End) (context : Context) → gone ≡ length context.lines + j → StepIsBarren task j steps context
      → StepsThen task steps (Closes task end) context → StepsThen task (without_step j steps) (Closes task (lowered gone end)) context
  steps_without j gone [] end context at b h = absurd b
  steps_without zero gone (step ∷ steps) end context at b h =
      let same : h.0 ≡ b.0 = same_form h.0 b.0 step.form h.1 b.1 in
      let rest = subst (λ (f : Form). StepsThen task steps (Closes task end) (after_mp context f step.args)) same h.3 in
      let number : length context.lines ≡ gone = omega arith in
      steps_lowered gone steps (Closes task end) (Closes task (lowered gone end)) (end_lowered end gone) (after_mp context b.0 step.args) context
      (subst (λ (k : ℕ). Lowers k (after_mp context b.0 step.args) context) number (barren_lowers context b.0 step.args b.2)) rest
  steps_without (suc j) gone (step ∷ steps) end context at b h =
      let same : h.0 ≡ b.0 = same_form h.0 b.0 step.form h.1 b.1 in
      let barren = subst (λ (f : Form). StepIsBarren task j steps (after_mp context f step.args)) (sym same) b.2 in (
        h.0,
        h.1,
        h.2,
        steps_without j gone steps end (after_mp context h.0 step.args)
            (omega (arith, length-append context.lines (line_of (map (map (atom_at (step.args ++ counted context.elements h.0.existentials))) h.0.disjuncts) ∷ []))) barren h.3,
      )

  -- the steps are kept, and the end after them is changed
  steps_kept : (steps : List Mp) (lines : ℕ) (P Q B : Context → Type 0) → ((c : Context) → length c.lines ≡ lines + length steps → B c → P c → Q c)
      → (context : Context) → length context.lines ≡ lines → AfterSteps task steps B context → StepsThen task steps P context → StepsThen task steps Q context
  steps_kept [] lines P Q B go context at b h = go context (omega arith) b h
  steps_kept (step ∷ steps) lines P Q B go context at b h =
      let same : h.0 ≡ b.0 = same_form h.0 b.0 step.form h.1 b.1 in
      let after = subst (λ (f : Form). AfterSteps task steps B (after_mp context f step.args)) (sym same) b.2 in (
        h.0,
        h.1,
        h.2,
        steps_kept steps (lines + 1) P Q B (λ c long. go c (omega arith)) (after_mp context h.0 step.args)
            (omega (arith, length-append context.lines (line_of (map (map (atom_at (step.args ++ counted context.elements h.0.existentials))) h.0.disjuncts) ∷ []))) after h.3,
      )

  -- there is one list of cases at a line
  same_lists : (l1 l2 : List (List Atom)) (line : ℕ) (context : Context) → slice_get context.lines line ≡ Some (Cases l1) → slice_get context.lines line ≡ Some (Cases l2) → l1 ≡ l2
  same_lists l1 l2 line context a b = let e : Some (Cases l1) ≡ Some (Cases l2) = sym a ∙ b in cc

  -- a branch begins with one line more
  branch_lines : (context : Context) (facts : List Atom) (lines : ℕ) → length context.lines ≡ lines → length (with_facts context facts).lines ≡ lines + 1
  branch_lines context facts lines at = let e = length-append context.lines (Facts facts ∷ []) in omega (arith, e)

  mutual
    -- an end still closes where the barren step in one of its branches is left out
    end_without_is : (end : End) (lines i : ℕ) (path : List ℕ) (j : ℕ) (context : Context) → length context.lines ≡ lines → EndHasBarren task end (i ∷ path) j context
        → Closes task end context → Closes task (end_without lines (i ∷ path) j end) context
    end_without_is (As disjunct args) lines i path j context at b h = absurd b
    end_without_is Efq lines i path j context at b h = absurd b
    end_without_is (Cs' line s row) lines i path j context at b h =
        let same : b.0 ≡ h.0 = same_lists b.0 h.0 line context b.1 h.1 in
        (h.0, h.1, row_without_is row lines i path j h.0 context at (subst (λ (lists : List (List Atom)). BranchHasBarren task row i path j lists context) same b.2) h.2)

    -- branches still prove each case where the barren step in one of them is left out
    row_without_is : {n : _} (row : Row_of-Body n) (lines i : ℕ) (path : List ℕ) (j : ℕ) (lists : List (List Atom)) (context : Context) → length context.lines ≡ lines
        → BranchHasBarren task row i path j lists context → EachProves task row lists context → EachProves task (branch_without lines i path j row) lists context
    row_without_is end_of-Body lines i path j lists context at b h = absurd b
    row_without_is (more_of-Body steps end rest) lines zero [] j [] context at b h = absurd b
    row_without_is (more_of-Body steps end rest) lines zero [] j (facts ∷ lists) context at b h =
        let first : facts ≡ h.0 = cc in (
          h.0,
          h.1,
          h.2,
          steps_without j (lines + 1 + j) steps end (with_facts context h.0) (let e = branch_lines context h.0 lines at in omega arith)
              (subst (λ (f : List Atom). StepIsBarren task j steps (with_facts context f)) first b) h.3,
          h.4,
        )
    row_without_is (more_of-Body steps end rest) lines zero (i ∷ path) j [] context at b h = absurd b
    row_without_is (more_of-Body steps end rest) lines zero (i ∷ path) j (facts ∷ lists) context at b h =
        let first : facts ≡ h.0 = cc in (
          h.0,
          h.1,
          h.2,
          steps_kept steps (lines + 1) (Closes task end) (Closes task (end_without (lines + 1 + length steps) (i ∷ path) j end)) (EndHasBarren task end (i ∷ path) j)
              (λ c long barren closes. end_without_is end (lines + 1 + length steps) i path j c long barren closes)
              (with_facts context h.0) (branch_lines context h.0 lines at)
              (subst (λ (f : List Atom). AfterSteps task steps (EndHasBarren task end (i ∷ path) j) (with_facts context f)) first b) h.3,
          h.4,
        )
    row_without_is (more_of-Body steps end rest) lines (suc i) path j [] context at b h = absurd b
    row_without_is (more_of-Body steps end rest) lines (suc i) path j (facts ∷ lists) context at b h =
        let others : lists ≡ h.1 = cc in
        (h.0, h.1, h.2, h.3, row_without_is rest lines i path j h.1 context at (subst (λ (l : List (List Atom)). BranchHasBarren task rest i path j l context) others b) h.4)

  -- a proof without a barren step is still a proof
  pub without_proves : (body : Body) (path : List ℕ) (j : ℕ) (context : Context) → HasBarren task body path j context → IsProof task context body
      → IsProof task context (without (length context.lines) path j body)
  without_proves body [] j context b h = steps_without j (length context.lines + j) body.steps body.end context refl b h
  without_proves body (i ∷ path) j context b h =
      steps_kept body.steps (length context.lines) (Closes task body.end) (Closes task (end_without (length context.lines + length body.steps) (i ∷ path) j body.end))
      (EndHasBarren task body.end (i ∷ path) j)
      (λ c long barren closes. end_without_is body.end (length context.lines + length body.steps) i path j c long barren closes)
      context refl b h

  -- its size
  mutual
    -- an end with lowered numbers has the same size
    end_lowered_size : (end : End) (gone : ℕ) → end_size (lowered gone end) ≡ end_size end
    end_lowered_size (As disjunct args) gone = refl
    end_lowered_size Efq gone = refl
    end_lowered_size (Cs' line s row) gone = ap (λ (k : ℕ). 1 + k) (row_lowered_size row gone)

    -- branches with lowered numbers have the same size
    row_lowered_size : {n : _} (row : Row_of-Body n) (gone : ℕ) → sizes (lowered_branches gone row) ≡ sizes row
    row_lowered_size end_of-Body gone = refl
    row_lowered_size (more_of-Body steps end rest) gone =
        let a : end_size (lowered gone end) ≡ end_size end = end_lowered_size end gone in
        let b : sizes (lowered_branches gone rest) ≡ sizes rest = row_lowered_size rest gone in omega arith

  -- one step is left out
  steps_count : (j : ℕ) (steps : List Mp) (context : Context) → StepIsBarren task j steps context → length (without_step j steps) + 1 ≡ length steps
  steps_count j [] context b = absurd b
  steps_count zero (step ∷ steps) context b = omega arith
  steps_count (suc j) (step ∷ steps) context b = let e = steps_count j steps (after_mp context b.0 step.args) b.2 in omega arith

  -- what holds of each context behind the steps holds of the one that they lead to
  after_some : {R : Type 0} (steps : List Mp) (B : Context → Type 0) → ((c : Context) → B c → R) → (context : Context) → AfterSteps task steps B context → R
  after_some [] B go context b = go context b
  after_some (step ∷ steps) B go context b = after_some steps B go (after_mp context b.0 step.args) b.2

  mutual
    -- an end without the barren step is smaller by 1
    end_without_size : (end : End) (lines i : ℕ) (path : List ℕ) (j : ℕ) (context : Context) → EndHasBarren task end (i ∷ path) j context
        → end_size (end_without lines (i ∷ path) j end) + 1 ≡ end_size end
    end_without_size (As disjunct args) lines i path j context b = absurd b
    end_without_size Efq lines i path j context b = absurd b
    end_without_size (Cs' line s row) lines i path j context b =
        let e : sizes (branch_without lines i path j row) + 1 ≡ sizes row = row_without_size row lines i path j b.0 context b.2 in omega arith

    -- branches without the barren step are smaller by 1
    row_without_size : {n : _} (row : Row_of-Body n) (lines i : ℕ) (path : List ℕ) (j : ℕ) (lists : List (List Atom)) (context : Context)
        → BranchHasBarren task row i path j lists context → sizes (branch_without lines i path j row) + 1 ≡ sizes row
    row_without_size end_of-Body lines i path j lists context b = absurd b
    row_without_size (more_of-Body steps end rest) lines zero [] j [] context b = absurd b
    row_without_size (more_of-Body steps end rest) lines zero [] j (facts ∷ lists) context b =
        let a : end_size (lowered (lines + 1 + j) end) ≡ end_size end = end_lowered_size end (lines + 1 + j) in
        let e : length (without_step j steps) + 1 ≡ length steps = steps_count j steps (with_facts context facts) b in omega arith
    row_without_size (more_of-Body steps end rest) lines zero (i ∷ path) j [] context b = absurd b
    row_without_size (more_of-Body steps end rest) lines zero (i ∷ path) j (facts ∷ lists) context b =
        let e : end_size (end_without (lines + 1 + length steps) (i ∷ path) j end) + 1 ≡ end_size end
        = after_some steps (EndHasBarren task end (i ∷ path) j) (λ c barren. end_without_size end (lines + 1 + length steps) i path j c barren) (with_facts context facts) b in
        omega arith
    row_without_size (more_of-Body steps end rest) lines (suc i) path j [] context b = absurd b
    row_without_size (more_of-Body steps end rest) lines (suc i) path j (facts ∷ lists) context b =
        let e : sizes (branch_without lines i path j rest) + 1 ≡ sizes rest = row_without_size rest lines i path j lists context b in omega arith

  -- a proof without a barren step is smaller by 1
  pub without_size : (body : Body) (path : List ℕ) (j : ℕ) (context : Context) → HasBarren task body path j context
      → size (without (length context.lines) path j body) + 1 ≡ size body
  without_size body [] j context b =
      let a : end_size (lowered (length context.lines + j) body.end) ≡ end_size body.end = end_lowered_size body.end (length context.lines + j) in
      let e : length (without_step j body.steps) + 1 ≡ length body.steps = steps_count j body.steps context b in omega arith
  without_size body (i ∷ path) j context b =
      let e : end_size (end_without (length context.lines + length body.steps) (i ∷ path) j body.end) + 1 ≡ end_size body.end
      = after_some body.steps (EndHasBarren task body.end (i ∷ path) j)
      (λ c barren. end_without_size body.end (length context.lines + length body.steps) i path j c barren) context b in
      omega arith
