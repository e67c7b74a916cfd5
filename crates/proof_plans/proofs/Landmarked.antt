-- Where a set of facts has all lines of a context and all forms but one hold in it, and no disjunct
-- of the goal, each proof from the context needs that form: what stands in some branch of it without
-- one is in the set, where each element stands for one of the set.
use Rattle.std.proofs.Common.{◌≡◌, ◌≢◌, ℕ, zero, suc, ◌+◌, ◌-◌, ◌<◌, ◌≤◌, ◌⊎◌, inl, inr, ⊎_elim, List, [], ◌∷◌, ◌++◌, map, length, slice_get, slice_index, Some, refl, ap, sym, ◌∙◌, subst, arith, length-append, Bool, true, false, ◌==◌}
use Rattle.std.proofs.lemmas.Bool.{cases_lt}
use Rattle.std.proofs.lemmas.List.{map-append, length-map}
use Rattle.std.specs.List.{AllByRecursion}
use Rattle.text_core.specs.Lists.{SomeOf, IsAmong}
use Rattle.text_core.proofs.Laws.{among_append, each_append, each_back, each_get, each_map, each_member, some_with, number_same}
use Rattle.logic_core.specs.Forms.{IsWellFormed, AtomIsBelow, SlotIsBelow}
use Rattle.logic_core.specs.declared.form.Slot.{Slot}
use Rattle.logic_core.specs.declared.form.Slot.TheVariants.{Variable, Constant}
use Rattle.logic_core.specs.declared.form.Atom.{Atom}
use Rattle.vernacular_tree.specs.Carries.{HasElements}
use Rattle.vernacular_tree.specs.Contexts.{Task, counted, parameters, slot_at, atom_at}
use Rattle.vernacular_tree.specs.Tasks.{IsTask}
use Rattle.vernacular_tree.specs.Witnessed.{IsContext, LineIsBelow}
use Rattle.vernacular_tree.specs.declared.context.Line.{Line}
use Rattle.vernacular_tree.specs.declared.context.Line.TheVariants.{Facts, Cases, Falsum}
use Rattle.vernacular_tree.specs.declared.context.Context.{Context}
use Rattle.vernacular_tree.specs.declared.tree.End.{End, As, Efq, Cs', Row_of-Body, end_of-Body, more_of-Body}
use Rattle.vernacular_tree.proofs.Numbers.{counted_length}
use Rattle.proof_plans.specs.declared.fact_set.FactSet.{FactSet}
use Rattle.proof_plans.specs.Runs.{Case, Above, Fire, elements_of, lists_of, Has, IsKnown, IsRun, MaySplit, IsAnswered, IsClosed, AreClosed, given_lists, all_given, line_facts, all_facts, root_of}
use Rattle.proof_plans.specs.Landmarks.{IsTold, AreTold, SomeTold, LineHolds, FormHolds, FormsHold, IsLandmark}
use Rattle.proof_plans.proofs.Steps.{get_index}
use Rattle.proof_plans.proofs.Creators.{one_creator}

-- facts whose elements are moved
abbrev slot_moved : (ℕ → ℕ) → Slot → Slot
slot_moved f (Variable i) = Variable i
slot_moved f (Constant c) = Constant (f c)

abbrev pub moved : (ℕ → ℕ) → Atom → Atom
moved f fact = record {
  positive = fact.positive;
  symbol = fact.symbol;
  args = map (slot_moved f) fact.args;
}

-- a fact of a form is moved with its elements
pub atom_moved : (f : ℕ → ℕ) (constants : ℕ) (values : List ℕ) → ((c : ℕ) → c < constants → f c ≡ c) → (atom : Atom) → AtomIsBelow (length values) constants atom
    → moved f (atom_at values atom) ≡ atom_at (map f values) atom
atom_moved f constants values fixed atom below = ap (λ (args : List Slot). record { positive = atom.positive; symbol = atom.symbol; args = args }) (slots atom.args below)
  where
    index_moved : (xs : List ℕ) (i : ℕ) → i < length xs → f (slice_index xs i) ≡ slice_index (map f xs) i
    index_moved [] i low = absurd (omega arith)
    index_moved (x ∷ xs) zero low = refl
    index_moved (x ∷ xs) (suc i) low = index_moved xs i (omega arith)

    slots : (ss : List Slot) → AllByRecursion (SlotIsBelow (length values) constants) ss → map (slot_moved f) (map (slot_at values) ss) ≡ map (slot_at (map f values)) ss
    slots [] low = refl
    slots (Variable i ∷ ss) low =
        let here = ap Constant (index_moved values i low.0) in let rest = slots ss low.1 in λ k. here k ∷ rest k
    slots (Constant c ∷ ss) low =
        let here = ap Constant (fixed c low.0) in let rest = slots ss low.1 in λ k. here k ∷ rest k

-- what goes for each image goes for the list of images
each_images : {X Y : Type 0} (P : Y → Type 0) (f : X → Y) (xs : List X) → AllByRecursion (λ x. P (f x)) xs → AllByRecursion P (map f xs)
each_images P f [] h = tt
each_images P f (x ∷ xs) h = (h.0, each_images P f xs h.1)

-- the application that made an element
record Maker (fires : List Fire) (element : ℕ) : Type 0 where
  index : ℕ
  fire : Fire
  is : slice_get fires index ≡ Some fire
  from : fire.first ≤ element
  below : element < fire.first + fire.form.existentials

-- it is found, or there is none
find_maker : (fires : List Fire) (element : ℕ) → Maker fires element ⊎ (Maker fires element → ⊥)
find_maker [] element = inr (λ m. let is = m.is in absurd (cc))
find_maker (fire ∷ fires) element = go (cases_lt element fire.first) (cases_lt element (fire.first + fire.form.existentials)) (find_maker fires element)
  where
    later : Maker fires element → Maker (fire ∷ fires) element
    later m = record { index = suc m.index; fire = m.fire; is = m.is; from = m.from; below = m.below }

    none : (fire.first ≤ element → element < fire.first + fire.form.existentials → ⊥) → (Maker fires element → ⊥) → Maker (fire ∷ fires) element → ⊥
    none outside lacking m = at m.index m.fire m.is m.from m.below
      where
        at : (index : ℕ) (f : Fire) → slice_get (fire ∷ fires) index ≡ Some f → f.first ≤ element → element < f.first + f.form.existentials → ⊥
        at zero f is from below = let same : fire ≡ f = cc in outside (subst (λ (x : Fire). x.first ≤ element) (sym same) from) (subst (λ (x : Fire). element < x.first + x.form.existentials) (sym same) below)
        at (suc index) f is from below = lacking (record { index = index; fire = f; is = is; from = from; below = below })

    go : (element < fire.first) ⊎ (fire.first ≤ element) → (element < fire.first + fire.form.existentials) ⊎ (fire.first + fire.form.existentials ≤ element)
        → Maker fires element ⊎ (Maker fires element → ⊥) → Maker (fire ∷ fires) element ⊎ (Maker (fire ∷ fires) element → ⊥)
    go (inr from) (inl below) rest = inl (record { index = 0; fire = fire; is = refl; from = from; below = below })
    go (inl before) low (inl m) = inl (later m)
    go (inr from) (inr behind) (inl m) = inl (later m)
    go (inl before) low (inr lacking) = inr (none (λ from below. omega arith) lacking)
    go (inr from) (inr behind) (inr lacking) = inr (none (λ from below. omega arith) lacking)

-- the element of a set for one that some application made, or for one from the beginning
abbrev by_maker : (set : FactSet) (fires : List Fire) (element : ℕ) → Maker fires element ⊎ (Maker fires element → ⊥) → ℕ
by_maker set fires element (inl m) = slice_index set.fresh.now m.fire.number + (element - m.fire.first)
by_maker set fires element (inr none) = element

abbrev stands_for : FactSet → List Fire → ℕ → ℕ
stands_for set fires element = by_maker set fires element (find_maker fires element)

module _ (constants : ℕ) (task : Task) (right : IsTask constants task) (lent : Context) (ok : IsContext task lent) (set : FactSet) (but : ℕ)
    (room : lent.elements ≤ set.elements) (lines : AllByRecursion (LineHolds set) lent.lines) (forms : FormsHold set task.forms but)
    (answers : (k : ℕ) (atoms : List Atom) → slice_get task.goal.disjuncts k ≡ Some atoms → (values : List ℕ) → length values ≡ task.goal.existentials
    → AllByRecursion (λ e. e < set.elements) values → AreTold set (parameters task ++ values) atoms → ⊥)
    (fires : List Fire) (run : IsRun task lent fires) (none : AllByRecursion (λ (fire : Fire). fire.number ≢ but) fires) where
  abbrev f : ℕ → ℕ
  f = stands_for set fires

  -- elements from the beginning stand for themselves
  old_is : (e : ℕ) → e < lent.elements → f e ≡ e
  old_is e low = go (find_maker fires e)
    where
      go : (found : Maker fires e ⊎ (Maker fires e → ⊥)) → by_maker set fires e found ≡ e
      go (inl m) = absurd (let from = m.from in let new = (run.right m.index m.fire m.is).new in omega arith)
      go (inr lacking) = refl

  -- a new element stands for one in a row
  new_is : (index : ℕ) (fire : Fire) → slice_get fires index ≡ Some fire → (e : ℕ) → fire.first ≤ e → e < fire.first + fire.form.existentials
      → f e ≡ slice_index set.fresh.now fire.number + (e - fire.first)
  new_is index fire is e from below = go (find_maker fires e)
    where
      go : (found : Maker fires e ⊎ (Maker fires e → ⊥)) → by_maker set fires e found ≡ slice_index set.fresh.now fire.number + (e - fire.first)
      go (inl m) =
          let one : m.index ≡ index = one_creator task lent fires run e m.index index m.fire fire m.is is m.from m.below from below in
          let there : slice_get fires index ≡ Some m.fire = subst (λ (k : ℕ). slice_get fires k ≡ Some m.fire) one m.is in
          let same : m.fire ≡ fire = cc in
          ap (λ (x : Fire). slice_index set.fresh.now x.number + (e - x.first)) same
      go (inr lacking) = absurd (lacking (record { index = index; fire = fire; is = is; from = from; below = below }))

  -- the form of an application holds in the set
  form_of : (index : ℕ) (fire : Fire) → slice_get fires index ≡ Some fire → FormHolds set (slice_index set.fresh.now fire.number) fire.form
  form_of index fire is =
      let holds = forms fire.number fire.form (run.right index fire is).form_is (each_get (λ (x : Fire). x.number ≢ but) fires index fire none is) in
      subst (λ (k : ℕ). FormHolds set k fire.form) (sym (get_index set.fresh.now fire.number holds.0 holds.1)) holds.2

  -- new elements in a row stand for elements in a row
  row_is : (index : ℕ) (fire : Fire) → slice_get fires index ≡ Some fire
      → map f (counted fire.first fire.form.existentials) ≡ counted (slice_index set.fresh.now fire.number) fire.form.existentials
  row_is index fire is = go 0 fire.form.existentials fire.first (slice_index set.fresh.now fire.number) (omega arith) (omega arith) (omega arith)
    where
      go : (k n first fresh : ℕ) → first ≡ fire.first + k → fresh ≡ slice_index set.fresh.now fire.number + k → k + n ≡ fire.form.existentials → map f (counted first n) ≡ counted fresh n
      go k zero first fresh a b c = refl
      go k (suc n) first fresh a b c =
          let one = new_is index fire is first (omega arith) (omega arith) in
          let here : f first ≡ fresh = omega arith in
          let rest = go (k + 1) n (first + 1) (fresh + 1) (omega arith) (omega arith) (omega arith) in λ i. here i ∷ rest i

  -- what is known stands for an element of the set
  known_low : (limit e : ℕ) (branch : List Case) → IsKnown lent.elements fires limit e branch → f e < set.elements
  known_low limit e branch (inl low) = let same = old_is e low in omega arith
  known_low limit e branch (inr new) =
      let same = new_is new.index new.seen.fire new.seen.is e new.from new.below in
      let from = new.from in let below = new.below in
      let holds = (form_of new.index new.seen.fire new.seen.is).0 in omega arith

  constants_fixed : (c : ℕ) → c < constants → f c ≡ c
  constants_fixed c low = let s = right.start in let t = ok.start in old_is c (omega arith)

  -- a fact is in the set where its elements are moved
  abbrev IsIn : Atom → Type 0
  IsIn fact = IsTold set (moved f fact)

  abbrev AreIn : List Atom → Type 0
  AreIn facts = AllByRecursion IsIn facts

  abbrev IsGood : List Case → Type 0
  IsGood branch = AllByRecursion (λ case. AreIn case.facts) branch

  -- branches above have their cases in the set too
  good_above : (upper branch : List Case) → Above upper branch → IsGood branch → IsGood upper
  good_above upper branch above good = each_back (λ case. AreIn case.facts) above.0 upper (subst IsGood above.1 good)

  -- one of the lists of an application is in the set, where its premises are
  fire_in : (index : ℕ) (fire : Fire) → slice_get fires index ≡ Some fire → AllByRecursion (λ atom. IsIn (atom_at fire.args atom)) fire.form.premises → SomeOf AreIn (lists_of fire)
  fire_in index fire is premises =
      let r = run.right index fire is in
      let formed : IsWellFormed constants fire.form = each_get (IsWellFormed constants) task.forms fire.number fire.form right.forms r.form_is in
      let long = length-map fire.args f in
      let args_long = r.length_is in
      let told : AreTold set (map f fire.args) fire.form.premises = told_premises fire.form.premises formed.premises premises in
      let low : AllByRecursion (λ e. e < set.elements) (map f fire.args)
      = each_images (λ e. e < set.elements) f fire.args (each_map (λ e k. known_low index e fire.branch k) fire.args r.known) in
      let some = (form_of index fire is).1 (map f fire.args) (omega arith) low told in
      let split : map f (elements_of fire) ≡ map f fire.args ++ counted (slice_index set.fresh.now fire.number) fire.form.existentials
      = map-append f fire.args (counted fire.first fire.form.existentials) ∙ ap (λ (l : List ℕ). map f fire.args ++ l) (row_is index fire is) in
      let counts = length-append fire.args (counted fire.first fire.form.existentials) in
      let news = counted_length fire.first fire.form.existentials in
      let all_long : length (elements_of fire) ≡ fire.form.universals + fire.form.existentials = omega arith in
      go all_long fire.form.disjuncts formed.disjuncts (subst (λ (l : List ℕ). SomeTold set l fire.form.disjuncts) (sym split) some)
    where
      told_premises : (atoms : List Atom) → AllByRecursion (AtomIsBelow fire.form.universals constants) atoms → AllByRecursion (λ atom. IsIn (atom_at fire.args atom)) atoms
          → AreTold set (map f fire.args) atoms
      told_premises [] below there = tt
      told_premises (atom ∷ atoms) below there =
          let r = (run.right index fire is).length_is in
          (subst (IsTold set) (atom_moved f constants fire.args constants_fixed atom (subst (λ (n : ℕ). AtomIsBelow n constants atom) (sym r) below.0)) there.0, told_premises atoms below.1 there.1)

      facts_in : length (elements_of fire) ≡ fire.form.universals + fire.form.existentials → (atoms : List Atom)
          → AllByRecursion (AtomIsBelow (fire.form.universals + fire.form.existentials) constants) atoms → AreTold set (map f (elements_of fire)) atoms → AreIn (map (atom_at (elements_of fire)) atoms)
      facts_in long [] below told = tt
      facts_in long (atom ∷ atoms) below told =
          (subst (IsTold set) (sym (atom_moved f constants (elements_of fire) constants_fixed atom (subst (λ (n : ℕ). AtomIsBelow n constants atom) (sym long) below.0))) told.0, facts_in long atoms below.1 told.1)

      go : length (elements_of fire) ≡ fire.form.universals + fire.form.existentials → (lists : List (List Atom))
          → AllByRecursion (AllByRecursion (AtomIsBelow (fire.form.universals + fire.form.existentials) constants)) lists → SomeTold set (map f (elements_of fire)) lists
          → SomeOf AreIn (map (map (atom_at (elements_of fire))) lists)
      go long [] below some = some
      go long (l ∷ ls) below (inl here) = inl (facts_in long l below.0 here)
      go long (l ∷ ls) below (inr later) = inr (go long ls below.1 later)

  -- what stands in a branch with good cases is in the set
  has_in : (count : ℕ) (fact : Atom) (limit : ℕ) (branch : List Case) → limit ≤ count → IsGood branch → Has fires fact limit branch → IsIn fact
  has_in count fact limit branch low good (inl given) = some_with (λ case all among. each_member IsIn case.facts all fact among) branch good given
  has_in zero fact limit branch low good (inr made) = let before : made.index < limit = made.before in absurd (omega arith)
  has_in (suc count) fact limit branch low good (inr made) =
      let fire : Fire = made.seen.fire in
      let before : made.index < limit = made.before in
      let upper = good_above fire.branch branch made.seen.above good in
      let premises : AllByRecursion (λ atom. IsIn (atom_at fire.args atom)) fire.form.premises
      = each_map (λ atom has. has_in count (atom_at fire.args atom) made.index fire.branch (omega arith) upper has) fire.form.premises (run.right made.index fire made.seen.is).premises in
      only (subst (SomeOf AreIn) made.one (fire_in made.index fire made.seen.is premises))
    where
      only : SomeOf AreIn (made.facts ∷ []) → IsIn fact
      only (inl all) = each_member IsIn made.facts all fact made.among
      only (inr none) = absurd none

  -- the facts of lists of a context are in the set, where they hold there
  fact_told : (fact : Atom) → HasElements lent.elements fact → IsTold set (atom_at [] fact) → IsIn fact
  fact_told fact below told = subst (IsTold set) (ap (λ (args : List Slot). record { positive = fact.positive; symbol = fact.symbol; args = args }) (slots fact.args below)) told
    where
      slots : (ss : List Slot) → AllByRecursion (SlotIsBelow 0 lent.elements) ss → map (slot_at []) ss ≡ map (slot_moved f) ss
      slots [] low = refl
      slots (Variable i ∷ ss) low = absurd (omega (arith, low.0))
      slots (Constant c ∷ ss) low = let here = ap Constant (sym (old_is c low.0)) in let rest = slots ss low.1 in λ k. here k ∷ rest k

  facts_told : (facts : List Atom) → AllByRecursion (HasElements lent.elements) facts → AreTold set [] facts → AreIn facts
  facts_told [] below told = tt
  facts_told (fact ∷ facts) below told = (fact_told fact below.0 told.0, facts_told facts below.1 told.1)

  lists_told : (lists : List (List Atom)) → AllByRecursion (AllByRecursion (HasElements lent.elements)) lists → SomeTold set [] lists → SomeOf AreIn lists
  lists_told [] below some = some
  lists_told (l ∷ ls) below (inl here) = inl (facts_told l below.0 here)
  lists_told (l ∷ ls) below (inr later) = inr (lists_told ls below.1 later)

  -- the branch in which a proof begins has good cases
  root_good : IsGood (root_of lent)
  root_good = (go lent.lines ok.lines lines, tt)
    where
      of_line : (line : Line) → LineIsBelow lent.elements line → LineHolds set line → AreIn (line_facts line)
      of_line (Facts facts) below holds = facts_told facts below holds
      of_line (Cases lists) below holds = tt
      of_line Falsum below holds = tt

      go : (ls : List Line) → AllByRecursion (LineIsBelow lent.elements) ls → AllByRecursion (LineHolds set) ls → AreIn (all_facts ls)
      go [] below holds = tt
      go (l ∷ ls) below holds = each_append IsIn (line_facts l) (all_facts ls) (of_line l below.0 holds.0) (go ls below.1 holds.1)

  -- of lists into which a branch may be split one is in the set
  split_in : (lists : List (List Atom)) (branch : List Case) → IsGood branch → MaySplit task lent fires lists branch → SomeOf AreIn lists
  split_in lists branch good (inl given) = go lent.lines ok.lines lines given
    where
      of_line : (line : Line) → LineIsBelow lent.elements line → LineHolds set line → IsAmong lists (given_lists line) → SomeOf AreIn lists
      of_line (Facts facts) below holds among = absurd among
      of_line (Cases own) below holds (inl same) = subst (SomeOf AreIn) same (lists_told own below holds)
      of_line (Cases own) below holds (inr none) = absurd none
      of_line Falsum below holds among = absurd holds

      go : (ls : List Line) → AllByRecursion (LineIsBelow lent.elements) ls → AllByRecursion (LineHolds set) ls → IsAmong lists (all_given ls) → SomeOf AreIn lists
      go [] below holds among = absurd among
      go (l ∷ ls) below holds among = ⊎_elim (of_line l below.0 holds.0) (go ls below.1 holds.1) (among_append lists (given_lists l) (all_given ls) among)
  split_in lists branch good (inr made) =
      let fire : Fire = made.1.fire in
      let upper = good_above fire.branch branch made.1.above good in
      let premises : AllByRecursion (λ atom. IsIn (atom_at fire.args atom)) fire.form.premises
      = each_map (λ atom has. has_in made.0 (atom_at fire.args atom) made.0 fire.branch (omega arith) upper has) fire.form.premises (run.right made.0 fire made.1.is).premises in
      subst (SomeOf AreIn) (sym made.2) (fire_in made.0 fire made.1.is premises)

  -- no disjunct of the goal stands in a branch with good cases
  not_answered : (disjunct : ℕ) (branch : List Case) → IsGood branch → IsAnswered task lent fires disjunct branch → ⊥
  not_answered disjunct branch good h =
      let long = length-map h.values f in
      let many = h.length_is in
      let low : AllByRecursion (λ e. e < set.elements) (map f h.values)
      = each_images (λ e. e < set.elements) f h.values (each_map (λ e k. known_low (length fires) e branch k) h.values h.known) in
      let s = right.start in
      let t = ok.start in
      let own = counted_length (task.start - task.goal.universals) task.goal.universals in
      let all_long = length-append (parameters task) h.values in
      let whole : length (parameters task ++ h.values) ≡ task.goal.universals + task.goal.existentials = omega arith in
      let formed = each_get (AllByRecursion (AtomIsBelow (task.goal.universals + task.goal.existentials) constants)) task.goal.disjuncts (disjunct - 1) h.atoms right.goal.disjuncts h.disjunct_is in
      let old : map f (parameters task) ≡ parameters task = row (task.start - task.goal.universals) task.goal.universals (omega arith) in
      let moved_values : map f (parameters task ++ h.values) ≡ parameters task ++ map f h.values
      = map-append f (parameters task) h.values ∙ ap (λ (l : List ℕ). l ++ map f h.values) old in
      answers (disjunct - 1) h.atoms h.disjunct_is (map f h.values) (omega arith) low
      (subst (λ (l : List ℕ). AreTold set l h.atoms) moved_values
      (told whole h.atoms formed (each_map (λ atom has. has_in (length fires) (atom_at (parameters task ++ h.values) atom) (length fires) branch (omega arith) good has) h.atoms h.stand)))
    where
      row : (first n : ℕ) → first + n ≤ lent.elements → map f (counted first n) ≡ counted first n
      row first zero low = refl
      row first (suc n) low = let here = old_is first (omega arith) in let rest = row (first + 1) n (omega arith) in λ k. here k ∷ rest k

      told : length (parameters task ++ h.values) ≡ task.goal.universals + task.goal.existentials → (atoms : List Atom)
          → AllByRecursion (AtomIsBelow (task.goal.universals + task.goal.existentials) constants) atoms
          → AllByRecursion (λ atom. IsIn (atom_at (parameters task ++ h.values) atom)) atoms → AreTold set (map f (parameters task ++ h.values)) atoms
      told whole [] below all = tt
      told whole (atom ∷ atoms) below all = (
        subst (IsTold set) (atom_moved f constants (parameters task ++ h.values) constants_fixed atom (subst (λ (n : ℕ). AtomIsBelow n constants atom) (sym whole) below.0)) all.0,
        told whole atoms below.1 all.1,
      )

  mutual
    -- so no branch with good cases is closed
    not_closed : (end : End) (branch : List Case) → IsGood branch → IsClosed task lent fires end branch → ⊥
    not_closed (As disjunct args) branch good h = not_answered disjunct branch good h
    not_closed Efq branch good h = split_in [] branch good h
    not_closed (Cs' line s row) branch good h = not_rows row 0 h.0 branch good (split_in h.0 branch good h.1) h.2

    not_rows : {n : _} (row : Row_of-Body n) (number : ℕ) (lists : List (List Atom)) (branch : List Case) → IsGood branch → SomeOf AreIn lists
        → AreClosed task lent fires row number lists branch → ⊥
    not_rows end_of-Body number [] branch good some h = some
    not_rows end_of-Body number (l ∷ ls) branch good some h = absurd (cc)
    not_rows (more_of-Body steps end rest) number [] branch good some h = some
    not_rows (more_of-Body steps end rest) number (l ∷ ls) branch good some h =
        let first : l ≡ h.0 = let e = h.2 in cc in
        let others : ls ≡ h.1 = let e = h.2 in cc in
        ⊎_elim (λ here. not_closed end (record { number = number; facts = h.0 } ∷ branch) (subst AreIn first here, good) h.4)
        (λ later. not_rows rest (number + 1) h.1 branch good (subst (SomeOf AreIn) others later) h.5) some

-- a form is a landmark where a set of facts shows it
pub landmark : (constants : ℕ) (task : Task) → IsTask constants task → (lent : Context) → IsContext task lent → (set : FactSet) (but : ℕ) → lent.elements ≤ set.elements
    → AllByRecursion (LineHolds set) lent.lines → FormsHold set task.forms but
    → ((k : ℕ) (atoms : List Atom) → slice_get task.goal.disjuncts k ≡ Some atoms → (values : List ℕ) → length values ≡ task.goal.existentials
    → AllByRecursion (λ e. e < set.elements) values → AreTold set (parameters task ++ values) atoms → ⊥)
    → IsLandmark task lent but
landmark constants task right lent ok set but room lines forms answers = λ fires end run closed. go fires end run closed (by_number fires)
  where
    by_number : (fires : List Fire) → SomeOf (λ (fire : Fire). fire.number ≡ but) fires ⊎ AllByRecursion (λ (fire : Fire). fire.number ≢ but) fires
    by_number [] = inr tt
    by_number (fire ∷ fires) = by_test (fire.number == but) refl (by_number fires)
      where
        by_test : (b : Bool) → (fire.number == but) ≡ b → SomeOf (λ (fire : Fire). fire.number ≡ but) fires ⊎ AllByRecursion (λ (fire : Fire). fire.number ≢ but) fires
            → SomeOf (λ (fire : Fire). fire.number ≡ but) (fire ∷ fires) ⊎ AllByRecursion (λ (fire : Fire). fire.number ≢ but) (fire ∷ fires)
        by_test true e rest = inl (inl (number_same fire.number but e))
        by_test false e (inl found) = inl (inr found)
        by_test false e (inr differ) = inr ((λ same. let t : (fire.number == but) ≡ true = grind arith in cc), differ)

    go : (fires : List Fire) (end : End) → IsRun task lent fires → IsClosed task lent fires end (root_of lent)
        → SomeOf (λ (fire : Fire). fire.number ≡ but) fires ⊎ AllByRecursion (λ (fire : Fire). fire.number ≢ but) fires → SomeOf (λ (fire : Fire). fire.number ≡ but) fires
    go fires end run closed (inl found) = found
    go fires end run closed (inr none) = absurd (not_closed constants task right lent ok set but room lines forms answers fires run none end (root_of lent)
        (root_good constants task right lent ok set but room lines forms answers fires run none) closed)
