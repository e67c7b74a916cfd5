-- Forms that hold in a set of facts, as a walk through all elements of their variables shows it.
use Rattle.std.proofs.Common.{◌≡◌, ◌≢◌, ℕ, zero, suc, ◌+◌, ◌-◌, ◌<◌, ◌≤◌, ⊎_elim, List, [], ◌∷◌, ◌++◌, map, length, slice_get, slice_index, Some, refl, ap, sym, ◌∙◌, subst, arith, length-append, append_assoc, append-nil}
use Rattle.std.proofs.lemmas.Bool.{cases_lt}
use Rattle.std.proofs.lemmas.List.{map-append, get_or_append_left}
use Rattle.std.specs.List.{AllByRecursion}
use Rattle.logic_core.specs.Forms.{AtomIsBelow}
use Rattle.logic_core.specs.declared.form.Atom.{Atom}
use Rattle.logic_core.specs.declared.form.Form.{Form}
use Rattle.vernacular_tree.specs.Contexts.{Task, counted, parameters, atom_at}
use Rattle.vernacular_tree.specs.Tasks.{IsTask}
use Rattle.vernacular_tree.specs.Witnessed.{IsContext}
use Rattle.vernacular_tree.specs.declared.context.Context.{Context}
use Rattle.vernacular_tree.proofs.Numbers.{counted_length, counted_at, counted_read}
use Rattle.proof_plans.specs.declared.fact_set.FactSet.{FactSet}
use Rattle.proof_plans.specs.declared.scene.Scene.{Scene}
use Rattle.proof_plans.specs.Drafts.{Both}
use Rattle.proof_plans.specs.Scenes.{IsAnswerForm, IsScene}
use Rattle.proof_plans.specs.Landmarks.{IsTold, AreTold, SomeTold, LineHolds, HoldsFrom, FormHolds, FormsHold, IsRefuted, IsLandmark}
use Rattle.proof_plans.proofs.Landmarked.{moved, atom_moved, landmark}

-- the facts of atoms, or of one of several lists, are in a set as they were read
pub all_told : (set : FactSet) (values : List ℕ) (atoms own : List Atom) → atoms ≡ own → ((more : List ℕ) → AreTold set (values ++ more) atoms) → AreTold set values own
all_told set values atoms own same told = subst (AreTold set values) same (subst (λ (l : List ℕ). AreTold set l atoms) (append-nil values) (told []))

pub some_told : (set : FactSet) (all values : List ℕ) (lists own : List (List Atom)) → all ≡ values → lists ≡ own → ((more : List ℕ) → SomeTold set (all ++ more) lists) → SomeTold set values own
some_told set all values lists own same lists_same told = subst (SomeTold set values) lists_same (subst (λ (l : List ℕ). SomeTold set l lists) (append-nil all ∙ same) (told []))

-- one of atoms is not in a set as it was read
pub missing_told : (set : FactSet) (all values : List ℕ) (atoms own : List Atom) → all ≡ values → atoms ≡ own → ((more : List ℕ) → AreTold set (all ++ more) atoms → ⊥)
    → (more : List ℕ) → AreTold set (values ++ more) own → ⊥
missing_told set all values atoms own same atoms_same lacks = λ more told.
    lacks more (subst (λ (l : List ℕ). AreTold set (l ++ more) atoms) (sym same) (subst (AreTold set (values ++ more)) (sym atoms_same) told))

module _ (set : FactSet) (form : Form) (fresh : ℕ) (values : List ℕ) where
  -- a form holds where one of its premises is not in the set
  pub holds_missing : ((more : List ℕ) → AreTold set (values ++ more) form.premises → ⊥) → HoldsFrom set form fresh values
  holds_missing lacks = λ more long low told. absurd (lacks more told)

  -- or where the facts of one of its lists are, and all its variables have an element
  pub holds_whole : form.universals ≤ length values → SomeTold set (values ++ counted fresh form.existentials) form.disjuncts → HoldsFrom set form fresh values
  holds_whole full some = λ more long low told. go more long
    where
      go : (more : List ℕ) → length (values ++ more) ≡ form.universals → SomeTold set ((values ++ more) ++ counted fresh form.existentials) form.disjuncts
      go [] long = subst (λ (l : List ℕ). SomeTold set (l ++ counted fresh form.existentials) form.disjuncts) (sym (append-nil values)) some
      go (e ∷ es) long = absurd (let sum = length-append values (e ∷ es) in omega arith)

  -- or where it does so whichever element the next variable has
  abbrev pub HoldsBelow : ℕ → Type 0
  HoldsBelow limit = (e : ℕ) → e < limit → HoldsFrom set form fresh (values ++ e ∷ [])

  pub holds_first : HoldsBelow 0
  holds_first = λ e low. absurd (omega arith)

  pub holds_next : (at : ℕ) → HoldsBelow at → HoldsFrom set form fresh (values ++ at ∷ []) → HoldsBelow (at + 1)
  holds_next at before this = λ e low. ⊎_elim (λ less. before e less)
      (λ more. let same : at ≡ e = omega arith in subst (λ (k : ℕ). HoldsFrom set form fresh (values ++ k ∷ [])) same this) (cases_lt e at)

  pub holds_all : length values < form.universals → (limit : ℕ) → set.elements ≤ limit → HoldsBelow limit → HoldsFrom set form fresh values
  holds_all few limit enough all = λ more long low told. go more long low told
    where
      go : (more : List ℕ) → length (values ++ more) ≡ form.universals → AllByRecursion (λ e. e < set.elements) more → AreTold set (values ++ more) form.premises
          → SomeTold set ((values ++ more) ++ counted fresh form.existentials) form.disjuncts
      go [] long low told = absurd (let same = ap length (append-nil values) in omega arith)
      go (e ∷ es) long low told =
          let same : (values ++ e ∷ []) ++ es ≡ values ++ e ∷ es = append_assoc values (e ∷ []) es in
          let below : e < set.elements = low.0 in
          subst (λ (l : List ℕ). SomeTold set (l ++ counted fresh form.existentials) form.disjuncts) same
          (all e (omega arith) es (ap length same ∙ long) low.1 (subst (λ (l : List ℕ). AreTold set l form.premises) (sym same) told))

module _ (set : FactSet) (forms : List Form) (but : ℕ) where
  -- the first forms hold in a set, but for one
  abbrev pub FirstHold : ℕ → Type 0
  FirstHold limit = (number : ℕ) (form : Form) → number < limit → slice_get forms number ≡ Some form → number ≢ but
      → (fresh : ℕ) × (slice_get set.fresh.now number ≡ Some fresh) × FormHolds set fresh form

  pub first_hold : FirstHold 0
  first_hold = λ number form low is differ. absurd (omega arith)

  pub skipped : (at : ℕ) → at ≡ but → FirstHold at → FirstHold (at + 1)
  skipped at same before = λ number form low is differ. before number form (⊎_elim (λ less. less) (λ more. absurd (differ (omega arith))) (cases_lt number at)) is differ

  pub one_holds : (at : ℕ) (form : Form) (fresh : ℕ) → slice_get forms at ≡ Some form → slice_get set.fresh.now at ≡ Some fresh → FormHolds set fresh form → FirstHold at → FirstHold (at + 1)
  one_holds at form fresh there fresh_is holds before = λ number other low is differ. ⊎_elim (λ less. before number other less is differ)
      (λ more. let same : number ≡ at = omega arith in
      let here : slice_get forms at ≡ Some other = subst (λ (k : ℕ). slice_get forms k ≡ Some other) same is in
      let form_same : form ≡ other = cc in
      (fresh, subst (λ (k : ℕ). slice_get set.fresh.now k ≡ Some fresh) (sym same) fresh_is, subst (FormHolds set fresh) form_same holds))
      (cases_lt number at)

  pub all_hold : (limit : ℕ) → length forms ≤ limit → FirstHold limit → FormsHold set forms but
  all_hold limit enough first = λ number form is differ.
      let low = Rattle.proof_plans.proofs.Steps.get_below forms form number is in first number form (omega arith) is differ

-- a form without lists that holds in a set has its premises there for no elements
pub refuted : (set : FactSet) (form : Form) (fresh : ℕ) → form.disjuncts ≡ [] → FormHolds set fresh form → IsRefuted set form
refuted set form fresh none holds = λ values long low told. subst (SomeTold set (values ++ counted fresh form.existentials)) none (holds.1 values long low told)

module _ (constants : ℕ) (task : Task) (right : IsTask constants task) where
  -- the premises of the form of a disjunct of the goal are its atoms, at any elements
  answer_at : (form : Form) (atoms : List Atom) → IsAnswerForm task form atoms → AllByRecursion (AtomIsBelow (task.goal.universals + task.goal.existentials) constants) atoms
      → (values : List ℕ) → length values ≡ task.goal.existentials → map (atom_at values) form.premises ≡ map (atom_at (parameters task ++ values)) atoms
  answer_at form atoms a below values long =
      sym (premises_at form.premises a.below) ∙ ap (map (moved f)) (a.same base) ∙ atoms_at atoms below
    where
      base : ℕ
      base = a.constants + (constants + task.start)

      row : List ℕ
      row = counted base task.goal.existentials

      f : ℕ → ℕ
      f = slice_index (counted 0 base ++ values)

      fixed : (c : ℕ) → c < base → f c ≡ c
      fixed c low =
          let many = counted_length 0 base in
          let read : f c ≡ 0 + c = get_or_append_left (counted 0 base) values 0 c (omega arith) ∙ counted_at 0 base c low in
          omega arith

      row_at : map f row ≡ values
      row_at = counted_read (counted 0 base) values base task.goal.existentials (counted_length 0 base) long

      premises_at : (ps : List Atom) → AllByRecursion (AtomIsBelow task.goal.existentials a.constants) ps → map (moved f) (map (atom_at row) ps) ≡ map (atom_at values) ps
      premises_at [] low = refl
      premises_at (p ∷ ps) low =
          let here : moved f (atom_at row p) ≡ atom_at values p
          = atom_moved f a.constants row (λ c small. fixed c (omega arith)) p (subst (λ (n : ℕ). AtomIsBelow n a.constants p) (sym (counted_length base task.goal.existentials)) low.0)
          ∙ ap (λ (l : List ℕ). atom_at l p) row_at in
          let rest = premises_at ps low.1 in λ k. here k ∷ rest k

      own_fixed : (first n : ℕ) → first + n ≤ base → map f (counted first n) ≡ counted first n
      own_fixed first zero low = refl
      own_fixed first (suc n) low = let here = fixed first (omega arith) in let rest = own_fixed (first + 1) n (omega arith) in λ k. here k ∷ rest k

      all_at : map f (parameters task ++ row) ≡ parameters task ++ values
      all_at =
          let s = right.start in
          let old : map f (parameters task) ≡ parameters task = own_fixed (task.start - task.goal.universals) task.goal.universals (omega arith) in
          map-append f (parameters task) row ∙ ap (λ (l : List ℕ). l ++ map f row) old ∙ ap (λ (l : List ℕ). parameters task ++ l) row_at

      atoms_at : (ps : List Atom) → AllByRecursion (AtomIsBelow (task.goal.universals + task.goal.existentials) constants) ps
          → map (moved f) (map (atom_at (parameters task ++ row)) ps) ≡ map (atom_at (parameters task ++ values)) ps
      atoms_at [] low = refl
      atoms_at (p ∷ ps) low =
          let own = counted_length (task.start - task.goal.universals) task.goal.universals in
          let news = counted_length base task.goal.existentials in
          let sum = length-append (parameters task) row in
          let whole : length (parameters task ++ row) ≡ task.goal.universals + task.goal.existentials = omega arith in
          let here : moved f (atom_at (parameters task ++ row) p) ≡ atom_at (parameters task ++ values) p
          = atom_moved f constants (parameters task ++ row) (λ c small. fixed c (omega arith)) p (subst (λ (n : ℕ). AtomIsBelow n constants p) (sym whole) low.0)
          ∙ ap (λ (l : List ℕ). atom_at l p) all_at in
          let rest = atoms_at ps low.1 in λ k. here k ∷ rest k

  -- what goes for each image goes for the list of images, and back
  each_image : (P : Atom → Type 0) (f : Atom → Atom) (xs : List Atom) → AllByRecursion (λ x. P (f x)) xs → AllByRecursion P (map f xs)
  each_image P f [] h = tt
  each_image P f (x ∷ xs) h = (h.0, each_image P f xs h.1)

  image_each : (P : Atom → Type 0) (f : Atom → Atom) (xs : List Atom) → AllByRecursion P (map f xs) → AllByRecursion (λ x. P (f x)) xs
  image_each P f [] h = tt
  image_each P f (x ∷ xs) h = (h.0, image_each P f xs h.1)

  -- a disjunct of the goal whose form is refuted stands at no elements
  answer_refuted : (set : FactSet) (form : Form) (atoms : List Atom) → IsAnswerForm task form atoms → AllByRecursion (AtomIsBelow (task.goal.universals + task.goal.existentials) constants) atoms
      → IsRefuted set form → (values : List ℕ) → length values ≡ task.goal.existentials → AllByRecursion (λ e. e < set.elements) values → AreTold set (parameters task ++ values) atoms → ⊥
  answer_refuted set form atoms a below lacks values long low told =
      lacks values (long ∙ sym a.variables_are) low
      (image_each (IsTold set) (atom_at values) form.premises (subst (AllByRecursion (IsTold set)) (sym (answer_at form atoms a below values long))
      (each_image (IsTold set) (atom_at (parameters task ++ values)) atoms told)))

  -- nor does any of them
  answers_refuted : (set : FactSet) (forms : List Form) (lists : List (List Atom)) → Both (IsAnswerForm task) forms lists
      → AllByRecursion (AllByRecursion (AtomIsBelow (task.goal.universals + task.goal.existentials) constants)) lists → AllByRecursion (IsRefuted set) forms
      → (k : ℕ) (atoms : List Atom) → slice_get lists k ≡ Some atoms → (values : List ℕ) → length values ≡ task.goal.existentials
      → AllByRecursion (λ e. e < set.elements) values → AreTold set (parameters task ++ values) atoms → ⊥
  answers_refuted set [] [] both below lacks k atoms is = absurd (cc)
  answers_refuted set [] (l ∷ ls) both below lacks k atoms is = absurd both
  answers_refuted set (f ∷ fs) [] both below lacks k atoms is = absurd both
  answers_refuted set (f ∷ fs) (l ∷ ls) both below lacks zero atoms is =
      let same : l ≡ atoms = cc in
      answer_refuted set f atoms (subst (IsAnswerForm task f) same both.0) (subst (AllByRecursion (AtomIsBelow (task.goal.universals + task.goal.existentials) constants)) same below.0) lacks.0
  answers_refuted set (f ∷ fs) (l ∷ ls) both below lacks (suc k) atoms is = answers_refuted set fs ls both.1 below.1 lacks.1 k atoms is

-- a form is one that every proof needs where a set shows it
pub landmark_shown : (constants : ℕ) (task : Task) (lent : Context) (scene : Scene) (set : FactSet) (elements but : ℕ) → IsTask constants task → IsContext task lent → IsScene task lent scene
    → lent.elements ≡ elements → elements ≤ set.elements → AllByRecursion (LineHolds set) scene.lines.now → AllByRecursion (IsRefuted set) scene.answers.now
    → FormsHold set scene.forms.now but → IsLandmark task lent but
landmark_shown constants task lent scene set elements but right ok is same room lines answers forms =
    landmark constants task right lent ok set but (omega arith)
    (subst (AllByRecursion (LineHolds set)) is.lines_are lines)
    (subst (λ (l : List Form). FormsHold set l but) is.forms_are forms)
    (answers_refuted constants task right set scene.answers.now task.goal.disjuncts is.answers_are right.goal.disjuncts answers)
