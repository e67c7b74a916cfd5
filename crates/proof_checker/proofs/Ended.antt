-- Ends that were checked: by a disjunct of the goal, and by a split.
use Rattle.std.proofs.Common.{◌≡◌, ℕ, zero, suc, ◌+◌, ◌-◌, ◌<◌, ◌≤◌, inl, inr, List, [], ◌∷◌, ◌++◌, length, take, map, get_or, slice_get, Option, Some, refl, ap, sym, ◌∙◌, subst, arith}
use Rattle.std.specs.Prelude.{zip}
use Rattle.std.proofs.lemmas.List.{length-map}
use Rattle.text_core.specs.Names.{Text}
use Rattle.text_core.proofs.Laws.{take_all}
use Rattle.logic_core.specs.declared.form.Atom.{Atom}
use Rattle.logic_core.specs.declared.form.Form.{Form}
use Rattle.vernacular_tree.specs.Contexts.{parameters, atom_at, Stands as HasFact}
use Rattle.vernacular_tree.specs.Rules.{IsAnswer}
use Rattle.vernacular_tree.specs.declared.context.Line.TheVariants as line
use Rattle.coherent_form.specs.Tasks.{CitedTask, proof_task}
use Rattle.proof_text.specs.declared.body.CaseText.{CaseText}
use Rattle.proof_text.specs.declared.body.NamedAtom.{NamedAtom}
use Rattle.proof_text.specs.StandsFor.{NamesStand}
use Rattle.proof_checker.specs.Checks.{EachBehind, FailsAt}
use Rattle.proof_checker.specs.Faults.{AnswerFault, CaseShows, CasesDiffer, SplitFault, IsSplit}
use Rattle.proof_checker.specs.Kept.{Kept, atom_seen, line_seen, branch_of}
use Rattle.proof_checker.specs.declared.fact.Fact.{Fact}
use Rattle.proof_checker.specs.declared.fact.HeldLine.TheVariants as held
use Rattle.proof_checker.specs.declared.refusal.Why.{Why}
use Rattle.proof_checker.specs.declared.refusal.Why.TheVariants as why
use Rattle.proof_checker.proofs.Compared.{get_map}
use Rattle.proof_checker.proofs.Elements.{names_known, names_long}
use Rattle.proof_checker.proofs.Named.{item_read}
use Rattle.proof_checker.proofs.Ordered.{each_fails, each_behind, fails_at}
use Rattle.proof_checker.proofs.Stepped.{get_within, names_below}

-- a pair of two items with one number
zip_at : {X Y : Type 0} (xs : List X) (ys : List Y) (i : ℕ) (x : X) (y : Y) → slice_get xs i ≡ Some x → slice_get ys i ≡ Some y → slice_get (zip xs ys) i ≡ Some (x, y)
zip_at [] ys i x y left right = absurd (cc)
zip_at (a ∷ xs) [] i x y left right = absurd (let bad : _ = right in cc)
zip_at (a ∷ xs) (b ∷ ys) zero x y left right =
    let first : a ≡ x = cc in
    let second : b ≡ y = cc in
    λ i. Some (first i, second i)
zip_at (a ∷ xs) (b ∷ ys) (suc i) x y left right = zip_at xs ys i x y left right

-- there are as many pairs as items
zip_long : {X Y : Type 0} (xs : List X) (ys : List Y) → length xs ≡ length ys → length (zip xs ys) ≡ length xs
zip_long [] ys same = refl
zip_long (x ∷ xs) [] same = absurd (omega arith)
zip_long (x ∷ xs) (y ∷ ys) same = let rest : length (zip xs ys) ≡ length xs = zip_long xs ys (omega arith) in omega arith

-- what cases show, with the lists of a line
abbrev pub shown_pairs : List CaseText → List (List Fact) → List (Option (List NamedAtom) × List Atom)
shown_pairs cases lists = zip (map (λ (case : CaseText). case.shown) cases) (map (map atom_seen) lists)

-- the pair with a number
pub pair_at : (cases : List CaseText) (lists : List (List Fact)) (i : ℕ) (case : CaseText) (list : List Fact) → i < length cases → length cases ≡ length lists
    → case ≡ get_or cases i case → list ≡ get_or lists i list → slice_get (shown_pairs cases lists) i ≡ Some (case.shown, map atom_seen list)
pair_at cases lists i case list below same left right = zip_at (map (λ (case : CaseText). case.shown) cases) (map (map atom_seen) lists) i case.shown (map atom_seen list)
    (get_map (λ (case : CaseText). case.shown) cases i case (item_read cases i case below left))
    (get_map (map atom_seen) lists i list (item_read lists i list (omega (arith, below, same)) right))

-- the first pair that fails, in a loop
pub pair_fails : {X : Type 0} (P : List X → X → Type 0) (xs : List X) (i : ℕ) (x : X) → slice_get xs i ≡ Some x → EachBehind P [] (take i xs) → (P (take i xs) x → ⊥)
    → FailsAt P [] xs (i + 1)
pair_fails P xs i x at all fails = subst (FailsAt P [] xs) (let e : 0 + i + 1 ≡ i + 1 = omega arith in e) (fails_at P [] xs i x all at fails)

-- all pairs, where the loop is through
pub pairs_pass : (P : List (Option (List NamedAtom) × List Atom) → Option (List NamedAtom) × List Atom → Type 0) (cases : List CaseText) (lists : List (List Fact)) (i : ℕ)
    → length cases ≡ length lists → length cases ≤ i → EachBehind P [] (take i (shown_pairs cases lists)) → EachBehind P [] (shown_pairs cases lists)
pairs_pass P cases lists i same whole all =
    let one = length-map cases (λ (case : CaseText). case.shown) in
    let two = length-map lists (map atom_seen) in
    let long : length (shown_pairs cases lists) ≡ length cases
    = zip_long (map (λ (case : CaseText). case.shown) cases) (map (map atom_seen) lists) (one ∙ same ∙ sym two) ∙ one in
    subst (EachBehind P []) (take_all (shown_pairs cases lists) i (omega (arith, long, whole))) all

-- a line of cases of the branch
pub line_is : (kept : Kept) (n : ℕ) (lists : List (List Fact)) → slice_get kept.lines n ≡ Some (held.Cases lists)
    → slice_get (branch_of kept).context.lines n ≡ Some (line.Cases (map (map atom_seen) lists))
line_is kept n lists at = get_map line_seen kept.lines n (held.Cases lists) at

-- a split is refused for what its cases show
pub split_refused : (task : CitedTask) (kept : Kept) (n : ℕ) (cases : List CaseText) (lists : List (List Fact)) (reason : Why)
    → slice_get kept.lines n ≡ Some (held.Cases lists)
    → CasesDiffer task (branch_of kept) (map (λ (case : CaseText). case.shown) cases) (map (map atom_seen) lists) reason
    → SplitFault task (branch_of kept) n (map (λ (case : CaseText). case.shown) cases) reason
split_refused task kept n cases lists reason at told =
    let here = line_is kept n lists at in
    inr (
      get_within (branch_of kept).context.lines n (line.Cases (map (map atom_seen) lists)) here,
      inr ((map (map atom_seen) lists, here), (map (map atom_seen) lists, here, told)),
    )

-- not as many cases as lists
pub cases_differ : (task : CitedTask) (kept : Kept) (cases : List CaseText) (lists : List (List Fact)) → (length cases ≡ length lists → ⊥)
    → CasesDiffer task (branch_of kept) (map (λ (case : CaseText). case.shown) cases) (map (map atom_seen) lists) why.BranchCount
cases_differ task kept cases lists differ =
    let one = length-map cases (λ (case : CaseText). case.shown) in
    let two = length-map lists (map atom_seen) in
    inl ((λ same. differ (sym one ∙ same ∙ two)), refl)

-- a case that shows other facts
pub case_differs : (task : CitedTask) (kept : Kept) (cases : List CaseText) (lists : List (List Fact)) (number : ℕ) → length cases ≡ length lists
    → FailsAt (λ front case. CaseShows task (branch_of kept) case) [] (shown_pairs cases lists) number
    → CasesDiffer task (branch_of kept) (map (λ (case : CaseText). case.shown) cases) (map (map atom_seen) lists) (why.CaseDiffers number)
case_differs task kept cases lists number same fails =
    let one = length-map cases (λ (case : CaseText). case.shown) in
    let two = length-map lists (map atom_seen) in
    inr (one ∙ same ∙ sym two, each_fails why.CaseDiffers _ _ [] (shown_pairs cases lists) number fails)

-- a split that stands
pub split_is : (task : CitedTask) (kept : Kept) (n : ℕ) (cases : List CaseText) (lists : List (List Fact)) → slice_get kept.lines n ≡ Some (held.Cases lists)
    → length cases ≡ length lists → EachBehind (λ front case. CaseShows task (branch_of kept) case) [] (shown_pairs cases lists)
    → IsSplit task (branch_of kept) n (map (λ (case : CaseText). case.shown) cases) (map (map atom_seen) lists)
split_is task kept n cases lists at same each =
    let one = length-map cases (λ (case : CaseText). case.shown) in
    let two = length-map lists (map atom_seen) in
    record {
      line_is = line_is kept n lists at;
      as_many = one ∙ same ∙ sym two;
      shows = each_behind (CaseShows task (branch_of kept)) [] (shown_pairs cases lists) each;
    }

-- an end is refused for an atom that does not stand
pub answer_refused : (task : CitedTask) (kept : Kept) (disjunct : ℕ) (texts : List Text) (atoms : List Atom) (args : List ℕ) (number : ℕ)
    → (0 < disjunct) × (disjunct ≤ length task.goal.disjuncts) → length texts ≡ task.goal.existentials → NamesStand kept.names texts args
    → slice_get task.goal.disjuncts (disjunct - 1) ≡ Some atoms
    → FailsAt (λ front (atom : Atom). HasFact (branch_of kept).context (atom_at (parameters (proof_task task) ++ args) atom)) [] atoms number
    → AnswerFault task (branch_of kept) disjunct texts (why.AtomMissing number)
answer_refused task kept disjunct texts atoms args number within many stand at fails =
    inr (within, inr (many, inr (names_known kept.names texts args stand, (atoms, args, at, stand, each_fails why.AtomMissing _ _ [] atoms number fails))))

-- an end that stands
pub answer_is : (task : CitedTask) (kept : Kept) (disjunct : ℕ) (texts : List Text) (atoms : List Atom) (args : List ℕ)
    → (0 < disjunct) × (disjunct ≤ length task.goal.disjuncts) → length texts ≡ task.goal.existentials → NamesStand kept.names texts args
    → slice_get task.goal.disjuncts (disjunct - 1) ≡ Some atoms
    → EachBehind (λ front (atom : Atom). HasFact (branch_of kept).context (atom_at (parameters (proof_task task) ++ args) atom)) [] atoms
    → IsAnswer (proof_task task) (branch_of kept).context disjunct args
answer_is task kept disjunct texts atoms args within many stand at each = record {
  atoms = atoms;
  from_one = within.0;
  disjunct_is = at;
  args_known = record {
    length_is = sym (names_long kept.names texts args stand) ∙ many;
    known = names_below kept.names texts args stand;
  };
  stand = each_behind (λ atom. HasFact (branch_of kept).context (atom_at (parameters (proof_task task) ++ args) atom)) [] atoms each;
}

-- the disjunct with a number that is there
pub disjunct_at : (goal : Form) (forms : List (List Atom)) (disjunct : ℕ) (atoms : List Atom) → forms ≡ goal.disjuncts
    → (0 < disjunct) × (disjunct ≤ length goal.disjuncts) → atoms ≡ get_or forms (disjunct - 1) atoms → slice_get goal.disjuncts (disjunct - 1) ≡ Some atoms
disjunct_at goal forms disjunct atoms are within is =
    let low : 0 < disjunct = within.0 in
    let high : disjunct ≤ length goal.disjuncts = within.1 in
    item_read goal.disjuncts (disjunct - 1) atoms (omega arith) (is ∙ ap (λ (ds : List (List Atom)). get_or ds (disjunct - 1) atoms) are)
