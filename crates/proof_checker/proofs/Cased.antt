-- Cases that were checked one after another, and the split that they make.
use Rattle.std.proofs.Common.{◌≡◌, ℕ, Bool, zero, suc, ◌+◌, ◌<◌, ◌≤◌, inl, inr, List, [], ◌∷◌, ◌++◌, length, take, map, get_or, slice_get, Option, Some, refl, ap, sym, ◌∙◌, subst, arith, append_assoc, append-nil}
use Rattle.std.proofs.lemmas.List.{map-append, length-map}
use Rattle.std.proofs.lemmas.List.Sums.{sum_by-cons}
use Rattle.text_core.specs.Lists.{SomeOf}
use Rattle.text_core.proofs.Laws.{take_next, take_all, value_same, each_get}
use Rattle.logic_core.specs.declared.form.Atom.{Atom}
use Rattle.vernacular_tree.specs.declared.context.Line.TheVariants as line
use Rattle.vernacular_tree.specs.declared.tree.Node.TheVariants as node
use Rattle.coherent_form.specs.Tasks.{CitedTask}
use Rattle.proof_text.specs.declared.body.CaseText.{CaseText}
use Rattle.proof_text.specs.declared.body.NamedAtom.{NamedAtom}
use Rattle.proof_text.specs.declared.body.EndText.{EndText, As, Efq, Gap, Cs, Cs'}
use Rattle.proof_text.specs.declared.body.EndText.TheBlock.{shape-the_row-CaseText-0}
use Rattle.proof_text.specs.Sizes.{size, case_sizes, end_size}
use Rattle.proof_text.proofs.Rows.{row_of, Cs_opens}
use Rattle.proof_text.specs.StandsFor.{AreCitedOnce}
use Rattle.proof_text.specs.Branches.{Branch, with_case}
use Rattle.proof_checker.specs.Faults.{shown_in, IsRefusedAt, SplitFault, IsSplit, EndFault, CasesFault}
use Rattle.proof_checker.specs.Kept.{Kept, IsKept, HasCase, LineFits, FactsFit, atom_seen, line_seen, branch_of}
use Rattle.proof_checker.specs.Opened.{EndOpens, CasesOpen, BodyOpens}
use Rattle.proof_checker.specs.Running.{BodyFault, CasesAre, CasesFail, Adds, sizes_of}
use Rattle.proof_checker.specs.declared.open_node.OpenNode.{OpenNode}
use Rattle.proof_checker.specs.declared.open_node.OpenNode.TheVariants as open_node
use Rattle.proof_checker.specs.declared.fact.Fact.{Fact}
use Rattle.proof_checker.specs.declared.fact.HeldLine as HeldLine
use Rattle.proof_checker.specs.declared.fact.HeldLine.TheVariants as held
use Rattle.proof_checker.specs.declared.refusal.Rule.TheVariants as rule
use Rattle.proof_checker.specs.declared.refusal.StepRefusal.{StepRefusal}
use Rattle.proof_checker.proofs.Compared.{get_map}
use Rattle.proof_checker.proofs.Named.{item_read}
use Rattle.proof_checker.proofs.OneList.{cases_one}
use Rattle.proof_checker.proofs.OneFault.{body_none}
use Rattle.proof_checker.proofs.Running.{take_long}

-- what the cases of a list show
abbrev pub shown_of : List CaseText → List (Option (List NamedAtom))
shown_of cases = map (λ (case : CaseText). case.shown) cases

-- what the row of a list shows
shown_row : (cases : List CaseText) → shown_in (row_of cases) ≡ shown_of cases
unfolding row_of shape-the_row-CaseText-0
shown_row [] = refl
shown_row (case ∷ cases) = ap (λ rest. case.shown ∷ rest) (shown_row cases)

-- the rule applications of the row of a list
row_sizes : (cases : List CaseText) → case_sizes (row_of cases) ≡ sizes_of cases
unfolding row_of shape-the_row-CaseText-0
row_sizes [] = refl
row_sizes (case ∷ cases) = ap (λ (k : ℕ). size case.body + k) (row_sizes cases) ∙ sym (sum_by-cons (λ (c : CaseText). size c.body) case cases)

-- a split that code builds counts 1, and the applications of its cases
pub Cs_sizes : (number : ℕ) (cases : List CaseText) → end_size (Cs number cases) ≡ 1 + sizes_of cases
Cs_sizes number cases = ap end_size (Cs_opens number cases) ∙ ap (λ (k : ℕ). 1 + k) (row_sizes cases)

-- the applications of the first cases and one more are at most those of all
pub sizes_next : (cases : List CaseText) (i : ℕ) (case : CaseText) → i < length cases → case ≡ get_or cases i case
    → (sizes_of (take (i + 1) cases) ≡ sizes_of (take i cases) + size case.body) × (sizes_of (take (i + 1) cases) ≤ sizes_of cases)
sizes_next cases i case below is =
    let at = item_read cases i case below is in
    (added cases i at, most cases (i + 1))
  where
    joined : (xs ys : List CaseText) → sizes_of (xs ++ ys) ≡ sizes_of xs + sizes_of ys
    joined [] ys = let e : sizes_of ys ≡ 0 + sizes_of ys = omega arith in e
    joined (x ∷ xs) ys =
        let rest : sizes_of (xs ++ ys) ≡ sizes_of xs + sizes_of ys = joined xs ys in
        let left : sizes_of (x ∷ (xs ++ ys)) ≡ size x.body + sizes_of (xs ++ ys) = sum_by-cons (λ (c : CaseText). size c.body) x (xs ++ ys) in
        let right : sizes_of (x ∷ xs) ≡ size x.body + sizes_of xs = sum_by-cons (λ (c : CaseText). size c.body) x xs in
        omega arith

    added : (cases : List CaseText) (i : ℕ) → slice_get cases i ≡ Some case → sizes_of (take (i + 1) cases) ≡ sizes_of (take i cases) + size case.body
    added cases i at =
        let single : sizes_of (case ∷ []) ≡ size case.body + sizes_of [] = sum_by-cons (λ (c : CaseText). size c.body) case [] in
        let both : sizes_of (take i cases ++ case ∷ []) ≡ sizes_of (take i cases) + sizes_of (case ∷ []) = joined (take i cases) (case ∷ []) in
        let next : sizes_of (take (i + 1) cases) ≡ sizes_of (take i cases ++ case ∷ []) = ap sizes_of (take_next cases i case at) in
        let none : sizes_of [] ≡ 0 = refl in
        omega arith

    most : (cases : List CaseText) (n : ℕ) → sizes_of (take n cases) ≤ sizes_of cases
    most [] zero = omega arith
    most [] (suc n) = omega arith
    most (x ∷ cases) zero = omega arith
    most (x ∷ cases) (suc n) =
        let rest : sizes_of (take n cases) ≤ sizes_of cases = most cases n in
        let left : sizes_of (x ∷ take n cases) ≡ size x.body + sizes_of (take n cases) = sum_by-cons (λ (c : CaseText). size c.body) x (take n cases) in
        let right : sizes_of (x ∷ cases) ≡ size x.body + sizes_of cases = sum_by-cons (λ (c : CaseText). size c.body) x cases in
        omega arith

-- each case has an application
pub cases_count : (cases : List CaseText) → length cases ≤ sizes_of cases
cases_count [] = omega arith
cases_count (case ∷ cases) =
    let rest : length cases ≤ sizes_of cases = cases_count cases in
    let first : 1 ≤ end_size case.body.end = end_counts case.body.end in
    let sum : sizes_of (case ∷ cases) ≡ size case.body + sizes_of cases = sum_by-cons (λ (c : CaseText). size c.body) case cases in
    omega arith
  where
    end_counts : (end : EndText) → 1 ≤ end_size end
    end_counts (As disjunct args) = omega arith
    end_counts Efq = omega arith
    end_counts (Gap within) = omega arith
    end_counts (Cs' line _ row) = omega arith

-- a case is no larger than all
pub case_size : (cases : List CaseText) (i : ℕ) (case : CaseText) → i < length cases → case ≡ get_or cases i case → size case.body ≤ sizes_of cases
case_size cases i case below is = let next = sizes_next cases i case below is in let one = next.0 in let two = next.1 in omega (arith, one, two)

-- falsehood among the lines that are kept, and among those that they are seen as
pub falsum_seen : (lines : List HeldLine.HeldLine) → SomeOf (λ l. l ≡ held.Falsum) lines → SomeOf (λ l. l ≡ line.Falsum) (map line_seen lines)
falsum_seen [] some = absurd some
falsum_seen (l ∷ lines) (inl here) = inl (ap line_seen here)
falsum_seen (l ∷ lines) (inr later) = inr (falsum_seen lines later)

pub seen_falsum : (lines : List HeldLine.HeldLine) → SomeOf (λ l. l ≡ line.Falsum) (map line_seen lines) → SomeOf (λ l. l ≡ held.Falsum) lines
seen_falsum [] some = absurd some
seen_falsum (l ∷ lines) (inl here) = inl (told l here)
  where
    told : (l : HeldLine.HeldLine) → line_seen l ≡ line.Falsum → l ≡ held.Falsum
    told (held.Facts facts) e = absurd (cc)
    told (held.Cases lists) e = absurd (cc)
    told held.Falsum e = refl
seen_falsum (l ∷ lines) (inr later) = inr (seen_falsum lines later)

-- a case's facts are those of the line
pub case_facts : (task : CitedTask) (old new : Kept) (cases : List CaseText) (number case : ℕ) (lists : List (List Atom)) (has : HasCase number case old new)
    → IsSplit task (branch_of old) number (shown_of cases) lists → slice_get lists case ≡ Some (map atom_seen has.1)
case_facts task old new cases number case lists has split =
    let here : slice_get (branch_of old).context.lines number ≡ Some (line.Cases (map (map atom_seen) has.0)) = get_map line_seen old.lines number (held.Cases has.0) has.2 in
    let same : map (map atom_seen) has.0 ≡ lists = cases_one (branch_of old).context.lines number (map (map atom_seen) has.0) lists here split.line_is in
    subst (λ (ls : List (List Atom)). slice_get ls case ≡ Some (map atom_seen has.1)) same (get_map (map atom_seen) has.0 case has.1 has.3)

-- the branch goes on with them
pub case_branch : (old new : Kept) (number case : ℕ) (has : HasCase number case old new) → branch_of new ≡ with_case (branch_of old) (map atom_seen has.1)
case_branch old new number case has =
    let lines : map line_seen new.lines ≡ map line_seen old.lines ++ line.Facts (map atom_seen has.1) ∷ []
    = ap (map line_seen) has.4.lines_are ∙ map-append line_seen old.lines (held.Facts has.1 ∷ []) in
    λ i. record { context = record { elements = length (has.4.names_are i); lines = lines i }; names = has.4.names_are i }

-- the facts of a case of a line that is kept fit
pub case_fits : (task : CitedTask) (kept : Kept) (number case : ℕ) (lists : List (List Fact)) (facts : List Fact) → IsKept task kept
    → slice_get kept.lines number ≡ Some (held.Cases lists) → slice_get lists case ≡ Some facts → FactsFit kept.signed facts
case_fits task kept number case lists facts is at here =
    each_get (FactsFit kept.signed) lists case facts (each_get (LineFits kept.signed) kept.lines number (held.Cases lists) is.lines at) here

module _ (task : CitedTask) (gaps : Bool) where
  -- one more case
  cases_last : (cases : List CaseText) (lists : List (List Atom)) (nodes : List OpenNode) (branch : Branch) (case : CaseText) (facts : List Atom) (more : List OpenNode)
      → slice_get lists (length cases) ≡ Some facts → CasesAre task gaps cases lists nodes branch → BodyOpens task gaps case.body more (with_case branch facts)
      → CasesAre task gaps (cases ++ case ∷ []) lists (nodes ++ more) branch
  cases_last [] [] nodes branch case facts more at are opens = absurd (cc)
  cases_last [] (list ∷ lists) nodes branch case facts more at are opens =
      let same : facts ≡ list = sym (value_same at) in
      (more, [], ap (λ (ns : List OpenNode). ns ++ more) are ∙ sym (append-nil more), subst (λ d. BodyOpens task gaps case.body more (with_case branch d)) same opens, refl)
  cases_last (c ∷ cases) [] nodes branch case facts more at are opens = absurd are
  cases_last (c ∷ cases) (list ∷ lists) nodes branch case facts more at (first, others, is, here, later) opens = (
    first,
    others ++ more,
    ap (λ (ns : List OpenNode). ns ++ more) is ∙ append_assoc first others more,
    here,
    cases_last cases lists others branch case facts more at later opens,
  )

  -- no cases add no nodes
  pub cases_added_none : (lists : List (List Atom)) (branch : Branch) (nodes : List OpenNode) → Adds (λ more. CasesAre task gaps [] lists more branch) nodes nodes
  cases_added_none lists branch nodes = record { more = []; are = sym (append-nil nodes); hold = refl }

  -- a case adds its nodes
  pub cases_added_next : (cases : List CaseText) (i : ℕ) (case : CaseText) (lists : List (List Atom)) (branch : Branch) (facts : List Atom) (before between after : List OpenNode)
      → i < length cases → case ≡ get_or cases i case → slice_get lists i ≡ Some facts → Adds (λ more. CasesAre task gaps (take i cases) lists more branch) before between
      → Adds (λ more. BodyOpens task gaps case.body more (with_case branch facts)) between after
      → Adds (λ more. CasesAre task gaps (take (i + 1) cases) lists more branch) before after
  cases_added_next cases i case lists branch facts before between after below is at so_far added =
      let next : take (i + 1) cases ≡ take i cases ++ case ∷ [] = take_next cases i case (item_read cases i case below is) in
      let long : length (take i cases) ≡ i = take_long task cases i (omega (arith, below)) in
      record {
        more = so_far.more ++ added.more;
        are = added.are ∙ ap (λ (ns : List OpenNode). ns ++ added.more) so_far.are ∙ append_assoc before so_far.more added.more;
        hold = subst (λ (cs : List CaseText). CasesAre task gaps cs lists (so_far.more ++ added.more) branch) (sym next)
            (cases_last (take i cases) lists so_far.more branch case facts added.more (subst (λ (k : ℕ). slice_get lists k ≡ Some facts) (sym long) at) so_far.hold added.hold);
      }

  -- all cases, where the loop is through
  pub cases_added_all : (cases : List CaseText) (lists : List (List Atom)) (branch : Branch) (i : ℕ) (before after : List OpenNode) → length cases ≤ i
      → Adds (λ more. CasesAre task gaps (take i cases) lists more branch) before after → Adds (λ more. CasesAre task gaps cases lists more branch) before after
  cases_added_all cases lists branch i before after whole added =
      subst (λ (cs : List CaseText). Adds (λ more. CasesAre task gaps cs lists more branch) before after) (take_all cases i whole) added

  -- a fault in a case behind others that have none
  fault_at : AreCitedOnce task → (cases : List CaseText) (lists : List (List Atom)) (nodes : List OpenNode) (branch : Branch) (i : ℕ) (case : CaseText) (facts : List Atom)
      (number at : ℕ) (refusal : StepRefusal) → slice_get cases i ≡ Some case → slice_get lists i ≡ Some facts
      → CasesAre task gaps (take i cases) lists nodes branch → at ≡ number + sizes_of (take i cases)
      → BodyFault task gaps case.body at (with_case branch facts) refusal → CasesFail task gaps cases lists number branch refusal
  fault_at once [] lists nodes branch i case facts number at refusal left right are is fault = absurd (cc)
  fault_at once (c ∷ cases) [] nodes branch i case facts number at refusal left right are is fault = absurd (let bad : _ = right in cc)
  fault_at once (c ∷ cases) (f ∷ lists) nodes branch zero case facts number at refusal left right are is fault =
      let one : case ≡ c = sym (value_same left) in
      let two : facts ≡ f = sym (value_same right) in
      let none : sizes_of [] ≡ 0 = refl in
      let here : at ≡ number = omega arith in
      inl (subst (λ (n : ℕ). BodyFault task gaps c.body n (with_case branch f) refusal) here
      (subst (λ (x : CaseText). BodyFault task gaps x.body at (with_case branch f) refusal) one
      (subst (λ (d : List Atom). BodyFault task gaps case.body at (with_case branch d) refusal) two fault)))
  fault_at once (c ∷ cases) (f ∷ lists) nodes branch (suc i) case facts number at refusal left right (first, others, nodes_are, opens, later) is fault =
      let sum : sizes_of (c ∷ take i cases) ≡ size c.body + sizes_of (take i cases) = sum_by-cons (λ (x : CaseText). size x.body) c (take i cases) in
      let shifted : at ≡ number + size c.body + sizes_of (take i cases) = omega arith in
      inr (
        (λ other told. body_none task once gaps c.body first number (with_case branch f) other opens told),
        fault_at once cases lists others branch i case facts (number + size c.body) at refusal left right later shifted fault,
      )

  -- a fault in a case, in a loop
  pub cases_fault_at : AreCitedOnce task → (cases : List CaseText) (i : ℕ) (case : CaseText) (lists : List (List Atom)) (branch : Branch) (facts : List Atom)
      (before between : List OpenNode) (refusal : StepRefusal) → i < length cases → case ≡ get_or cases i case → slice_get lists i ≡ Some facts
      → Adds (λ more. CasesAre task gaps (take i cases) lists more branch) before between → length between ≡ length before + sizes_of (take i cases)
      → BodyFault task gaps case.body (length between + 1) (with_case branch facts) refusal → CasesFail task gaps cases lists (length before + 1) branch refusal
  cases_fault_at once cases i case lists branch facts before between refusal below is at added long fault =
      let number : length between + 1 ≡ length before + 1 + sizes_of (take i cases) = omega (arith, long) in
      fault_at once cases lists added.more branch i case facts (length before + 1) (length between + 1) refusal (item_read cases i case below is) at added.hold number fault

  -- the fault of cases is that of their row
  cases_row_fault : (cases : List CaseText) (lists : List (List Atom)) (number : ℕ) (branch : Branch) (refusal : StepRefusal)
      → CasesFail task gaps cases lists number branch refusal → CasesFault task gaps (row_of cases) lists number branch refusal
  unfolding row_of shape-the_row-CaseText-0
  cases_row_fault [] lists number branch refusal fault = fault
  cases_row_fault (case ∷ cases) [] number branch refusal fault = fault
  cases_row_fault (case ∷ cases) (facts ∷ lists) number branch refusal (inl here) = inl here
  cases_row_fault (case ∷ cases) (facts ∷ lists) number branch refusal (inr later) =
      let shifted : number + size case.body ≡ number + length case.body.steps + end_size case.body.end = omega arith in
      inr (
        later.0,
        subst (λ (n : ℕ). CasesFault task gaps (row_of cases) lists n branch refusal) shifted
            (cases_row_fault cases lists (number + size case.body) branch refusal later.1),
      )

  -- a split is refused for its line
  pub split_fault : (line number : ℕ) (cases : List CaseText) (branch : Branch) (refusal : StepRefusal)
      → IsRefusedAt number rule.Cs (SplitFault task branch line (shown_of cases)) refusal → EndFault task gaps (Cs line cases) number branch refusal
  split_fault line number cases branch refusal told = subst (λ (e : EndText). EndFault task gaps e number branch refusal) (sym (Cs_opens line cases))
      (inl (subst (λ shown. IsRefusedAt number rule.Cs (SplitFault task branch line shown) refusal) (sym (shown_row cases)) told))

  -- a split is refused for a case
  pub split_case_fault : (line number : ℕ) (cases : List CaseText) (branch : Branch) (lists : List (List Atom)) (refusal : StepRefusal)
      → IsSplit task branch line (shown_of cases) lists → CasesFail task gaps cases lists (number + 1) branch refusal → EndFault task gaps (Cs line cases) number branch refusal
  split_case_fault line number cases branch lists refusal split told = subst (λ (e : EndText). EndFault task gaps e number branch refusal) (sym (Cs_opens line cases))
      (inr (lists, subst (λ shown. IsSplit task branch line shown lists) (sym (shown_row cases)) split, cases_row_fault cases lists (number + 1) branch refusal told))

  -- the nodes of cases are those of their row
  cases_row_open : (cases : List CaseText) (lists : List (List Atom)) (nodes : List OpenNode) (branch : Branch)
      → CasesAre task gaps cases lists nodes branch → CasesOpen task gaps (row_of cases) lists nodes branch
  unfolding row_of shape-the_row-CaseText-0
  cases_row_open [] lists nodes branch are = are
  cases_row_open (case ∷ cases) [] nodes branch are = are
  cases_row_open (case ∷ cases) (facts ∷ lists) nodes branch (first, others, is, opens, later) =
      (first, others, is, opens, cases_row_open cases lists others branch later)

  -- a split adds its node and those of its cases
  pub split_added : (line : ℕ) (cases : List CaseText) (branch : Branch) (lists : List (List Atom)) (before between after : List OpenNode)
      → IsSplit task branch line (shown_of cases) lists → between ≡ before ++ open_node.Rule (node.Cs line (length cases)) ∷ []
      → Adds (λ more. CasesAre task gaps cases lists more branch) between after → Adds (λ more. EndOpens task gaps (Cs line cases) more branch) before after
  split_added line cases branch lists before between after split is added =
      let many : length cases ≡ length lists = sym (length-map cases (λ (case : CaseText). case.shown)) ∙ split.as_many in
      let first : open_node.Rule (node.Cs line (length cases)) ∷ added.more ≡ open_node.Rule (node.Cs line (length lists)) ∷ added.more
      = ap (λ (k : ℕ). open_node.Rule (node.Cs line k) ∷ added.more) many in
      record {
        more = open_node.Rule (node.Cs line (length cases)) ∷ added.more;
        are = added.are ∙ ap (λ (ns : List OpenNode). ns ++ added.more) is ∙ append_assoc before (open_node.Rule (node.Cs line (length cases)) ∷ []) added.more;
        hold = subst (λ (e : EndText). EndOpens task gaps e (open_node.Rule (node.Cs line (length cases)) ∷ added.more) branch) (sym (Cs_opens line cases)) (
          lists,
          added.more,
          first,
          subst (λ shown. IsSplit task branch line shown lists) (sym (shown_row cases)) split,
          cases_row_open cases lists added.more branch added.hold,
        );
      }

  -- an end adds its node
  pub end_added : (end written : EndText) (branch : Branch) (one other : OpenNode) (before after : List OpenNode) → end ≡ written → one ≡ other
      → EndOpens task gaps written (other ∷ []) branch → after ≡ before ++ one ∷ [] → Adds (λ more. EndOpens task gaps end more branch) before after
  end_added end written branch one other before after end_is one_is opens is = record {
    more = other ∷ [];
    are = is ∙ ap (λ (n : OpenNode). before ++ n ∷ []) one_is;
    hold = subst (λ (e : EndText). EndOpens task gaps e (other ∷ []) branch) (sym end_is) opens;
  }
