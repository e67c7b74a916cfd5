-- What a search reads.
use Rattle.std.proofs.Common.{◌≡◌, ℕ, zero, suc, ◌+◌, ◌<◌, List, [], ◌∷◌, ◌++◌, map, length, slice_get, slice_index, take, min, add-one, Option, Some, Bor, refl, ap, sym, ◌∙◌, subst, arith}
use Rattle.std.specs.List.{AllByRecursion}
use Rattle.std.specs.Option.{option_copied}
use Rattle.logic_core.specs.Forms.{IsWellFormed, AtomIsBelow, SlotIsBelow}
use Rattle.logic_core.specs.declared.form.Slot.{Slot}
use Rattle.logic_core.specs.declared.form.Slot.TheVariants.{Variable, Constant}
use Rattle.logic_core.specs.declared.form.Atom.{Atom}
use Rattle.logic_core.specs.declared.form.Form.{Form}
use Rattle.vernacular_tree.specs.Carries.{slot_image, image, HasElements}
use Rattle.vernacular_tree.specs.Contexts.{Task, counted, slot_at, atom_at}
use Rattle.vernacular_tree.specs.Tasks.{IsTask}
use Rattle.vernacular_tree.specs.Witnessed.{IsContext, LineIsBelow}
use Rattle.vernacular_tree.specs.declared.context.Line.TheVariants.{Facts, Cases}
use Rattle.vernacular_tree.specs.declared.context.Context.{Context}
use Rattle.proof_plans.specs.declared.draft.ListOf as ListOf
use Rattle.proof_plans.specs.declared.draft.ListOf.TheVariants as list
use Rattle.proof_plans.specs.declared.draft.GoalOf as GoalOf
use Rattle.proof_plans.specs.declared.draft.GoalOf.TheVariants as goal_of
use Rattle.proof_plans.specs.declared.draft.Node.{Node}
use Rattle.proof_plans.specs.declared.draft.PlanGoal.{PlanGoal}
use Rattle.proof_plans.specs.Plans.{Goal}
use Rattle.proof_plans.specs.Drafts.{Both, AreListed, IsGoal, form_variables}
use Rattle.proof_plans.specs.Hopes.{PairHolds}
use Rattle.proof_plans.specs.Scenes.{Reads, IsGoalList, goal_base, list_base, slot_variable, pairs_of}
use Rattle.text_core.proofs.Laws.{each_get}

-- an item that was read is the one that stands there
pub item_read : {X : Type 0} (result : Option (Bor X)) (read : Bor X) (items : List X) (k : ℕ) (x : X) → option_copied result ≡ slice_get items k → result ≡ Some read
    → slice_get items k ≡ Some x → read.now ≡ x
item_read result read items k x is was there =
    let told : Some read.now ≡ Some x = ap option_copied (sym was) ∙ is ∙ there in cc

pub same_read : {X : Type 0} (result : Option (Bor X)) (read : Bor X) (x : X) → option_copied result ≡ Some x → result ≡ Some read → read.now ≡ x
same_read result read x is was = let told : Some read.now ≡ Some x = ap option_copied (sym was) ∙ is in cc

-- items and their images
pub get_mapped : {X Y : Type 0} (f : X → Y) (xs : List X) (k : ℕ) (x : X) → slice_get xs k ≡ Some x → slice_get (map f xs) k ≡ Some (f x)
get_mapped f [] k x e = absurd (cc)
get_mapped f (y ∷ ys) zero x e = let same : y ≡ x = cc in ap (λ (z : _). Some (f z)) same
get_mapped f (y ∷ ys) (suc k) x e = get_mapped f ys k x e

pub mapped_get : {X Y : Type 0} (f : X → Y) (xs : List X) (k : ℕ) (y : Y) → slice_get (map f xs) k ≡ Some y → (x : X) × (slice_get xs k ≡ Some x) × (f x ≡ y)
mapped_get f [] k y e = absurd (cc)
mapped_get f (x ∷ xs) zero y e = (x, refl, (let same : f x ≡ y = cc in same))
mapped_get f (x ∷ xs) (suc k) y e = mapped_get f xs k y e

module _ (constants : ℕ) (task : Task) (right : IsTask constants task) (lent : Context) where
  -- a fact of a list is read
  pub listed_reads : IsContext task lent → (of : ListOf.ListOf) (atoms : List Atom) (variables : List ℕ) (atom : Atom) (number : ℕ) → AreListed task lent of atoms variables
      → slice_get atoms number ≡ Some atom → Reads atom (list_base of) (atom_at variables atom)
  listed_reads ok (list.Line line) atoms variables atom number listed is =
      let low : LineIsBelow lent.elements (Facts atoms) = each_get (LineIsBelow lent.elements) lent.lines line (Facts atoms) ok.lines listed.0 in record {
        count = 0;
        constants = lent.elements;
        below = each_get (HasElements lent.elements) atoms number atom low is;
        fact_is = ap (λ (vs : List ℕ). atom_at vs atom) listed.1;
      }
  listed_reads ok (list.Case line n) atoms variables atom number listed is =
      let low : LineIsBelow lent.elements (Cases listed.0) = each_get (LineIsBelow lent.elements) lent.lines line (Cases listed.0) ok.lines listed.1 in
      let own : AllByRecursion (HasElements lent.elements) atoms = each_get (AllByRecursion (HasElements lent.elements)) listed.0 n atoms low listed.2 in record {
        count = 0;
        constants = lent.elements;
        below = each_get (HasElements lent.elements) atoms number atom own is;
        fact_is = ap (λ (vs : List ℕ). atom_at vs atom) listed.3;
      }
  listed_reads ok (list.Disjunct form base n) atoms variables atom number listed is =
      let f : Form = listed.0 in
      let formed : IsWellFormed constants f = each_get (IsWellFormed constants) task.forms form f right.forms listed.1 in
      let own = each_get (AllByRecursion (AtomIsBelow (f.universals + f.existentials) constants)) f.disjuncts n atoms formed.disjuncts listed.2 in record {
        count = f.universals + f.existentials;
        constants = constants;
        below = each_get (AtomIsBelow (f.universals + f.existentials) constants) atoms number atom own is;
        fact_is = ap (λ (vs : List ℕ). atom_at vs atom) listed.3;
      }

-- the variable of a slot reads the same
pub slot_reads : (count constants base : ℕ) (s : Slot) → SlotIsBelow count constants s → slot_at (counted base count) s ≡ Constant (slot_variable base s)
slot_reads count constants base (Variable i) low = ap Constant (counted_index count base i low)
  where
    counted_index : (count base i : ℕ) → i < count → slice_index (counted base count) i ≡ base + i
    counted_index zero base i low = absurd (omega arith)
    counted_index (suc count) base zero low = omega arith
    counted_index (suc count) base (suc i) low = let rest = counted_index count (base + 1) i (omega arith) in omega arith
slot_reads count constants base (Constant c) low = refl

-- one more pair
pub pairs_more : (base other : ℕ) (xs ys : List Slot) (k : ℕ) (x y : Slot) → slice_get xs k ≡ Some x → slice_get ys k ≡ Some y
    → pairs_of base other (take (k + 1) xs) (take (k + 1) ys) ≡ pairs_of base other (take k xs) (take k ys) ++ record { left = slot_variable base x; right = slot_variable other y } ∷ []
pairs_more base other xs ys k x y a b = rw add-one (go xs ys k a b)
  where
    go : (xs ys : List Slot) (k : ℕ) → slice_get xs k ≡ Some x → slice_get ys k ≡ Some y
        → pairs_of base other (take (suc k) xs) (take (suc k) ys) ≡ pairs_of base other (take k xs) (take k ys) ++ record { left = slot_variable base x; right = slot_variable other y } ∷ []
    go [] ys k a b = absurd (cc)
    go (u ∷ xs) [] k a b = absurd (cc)
    go (u ∷ xs) (v ∷ ys) zero a b =
        let p : u ≡ x = cc in let q : v ≡ y = cc in
        λ i. record { left = slot_variable base (p i); right = slot_variable other (q i) } ∷ []
    go (u ∷ xs) (v ∷ ys) (suc k) a b = ap (λ (ps : List _). record { left = slot_variable base u; right = slot_variable other v } ∷ ps) (go xs ys k a b)

-- all pairs
pub pairs_all : (base other : ℕ) (xs ys : List Slot) → pairs_of base other (take (min (length xs) (length ys)) xs) (take (min (length xs) (length ys)) ys) ≡ pairs_of base other xs ys
pairs_all base other xs ys = go xs ys (min (length xs) (length ys)) refl
  where
    go : (xs ys : List Slot) (n : ℕ) → n ≡ min (length xs) (length ys) → pairs_of base other (take n xs) (take n ys) ≡ pairs_of base other xs ys
    go [] ys zero e = refl
    go [] ys (suc n) e = refl
    go (u ∷ xs) [] zero e = refl
    go (u ∷ xs) [] (suc n) e = refl
    go (u ∷ xs) (v ∷ ys) zero e = absurd (omega arith)
    go (u ∷ xs) (v ∷ ys) (suc n) e = ap (λ (ps : List _). record { left = slot_variable base u; right = slot_variable other v } ∷ ps) (go xs ys n (omega arith))

-- an element of an argument
abbrev element_of : Slot → ℕ
element_of (Variable i) = i
element_of (Constant c) = c

-- facts that stand for one fact have arguments that stand for one element
pub pairs_hold : (values : List ℕ) (left right : Atom) (base other_base : ℕ) (one other : Atom) → Reads left base one → Reads right other_base other → image values one ≡ image values other
    → AllByRecursion (PairHolds values) (pairs_of base other_base left.args right.args)
pairs_hold values left right base other_base one other l r same =
    let a : map (slot_image values) one.args ≡ map (slot_image values) other.args = ap (λ (f : Atom). f.args) same in
    let b : one.args ≡ map (slot_at (counted base l.count)) left.args = ap (λ (f : Atom). f.args) l.fact_is in
    let c : other.args ≡ map (slot_at (counted other_base r.count)) right.args = ap (λ (f : Atom). f.args) r.fact_is in
    go left.args right.args l.below r.below (ap (map (slot_image values)) (sym b) ∙ a ∙ ap (map (slot_image values)) c)
  where
    go : (xs ys : List Slot) → AllByRecursion (SlotIsBelow l.count l.constants) xs → AllByRecursion (SlotIsBelow r.count r.constants) ys
        → map (slot_image values) (map (slot_at (counted base l.count)) xs) ≡ map (slot_image values) (map (slot_at (counted other_base r.count)) ys)
        → AllByRecursion (PairHolds values) (pairs_of base other_base xs ys)
    go [] ys lx ly e = tt
    go (x ∷ xs) [] lx ly e = tt
    go (x ∷ xs) (y ∷ ys) lx ly e =
        let p = slot_reads l.count l.constants base x lx.0 in let q = slot_reads r.count r.constants other_base y ly.0 in
        let heads : slot_image values (slot_at (counted base l.count) x) ≡ slot_image values (slot_at (counted other_base r.count) y) = cc in
        let tails : map (slot_image values) (map (slot_at (counted base l.count)) xs) ≡ map (slot_image values) (map (slot_at (counted other_base r.count)) ys) = cc in
        let told : Constant (slice_index values (slot_variable base x)) ≡ Constant (slice_index values (slot_variable other_base y))
        = ap (slot_image values) (sym p) ∙ heads ∙ ap (slot_image values) q in
        (ap element_of told, go xs ys lx.1 ly.1 tails)

module _ (constants : ℕ) (task : Task) (right : IsTask constants task) (lent : Context) (nodes : List Node) where
  -- the atom of a goal is read
  pub goal_reads : (kept : PlanGoal) (goal : Goal) → IsGoal task lent nodes kept goal → (read : Bor (List Atom)) → IsGoalList task kept.of (Some read)
      → (atom : Atom) × (slice_get read.now kept.number ≡ Some atom) × Reads atom (goal_base kept.of) goal.atom
  goal_reads kept goal is read told = go kept.of is.are told
    where
      go : (of : GoalOf.GoalOf) → Rattle.proof_plans.specs.Drafts.AreAtomsOf task lent of is.atoms is.variables → IsGoalList task of (Some read)
          → (atom : Atom) × (slice_get read.now kept.number ≡ Some atom) × Reads atom (goal_base of) goal.atom
      go (goal_of.Premises form base) are told =
          let f : Form = are.0 in
          let same : read.now ≡ f.premises = told f are.1 in
          let formed : IsWellFormed constants f = each_get (IsWellFormed constants) task.forms form f right.forms are.1 in
          let there : slice_get f.premises kept.number ≡ Some is.atom = subst (λ (atoms : List Atom). slice_get atoms kept.number ≡ Some is.atom) are.2 is.atom_is in (
            is.atom,
            subst (λ (atoms : List Atom). slice_get atoms kept.number ≡ Some is.atom) (sym same) there,
            record {
              count = f.universals + f.existentials;
              constants = constants;
              below = wider f.universals f.existentials is.atom (each_get (AtomIsBelow f.universals constants) f.premises kept.number is.atom formed.premises there);
              fact_is = is.goal_is ∙ ap (λ (vs : List ℕ). atom_at vs is.atom) are.3;
            },
          )
        where
          wider : (u e : ℕ) (atom : Atom) → AtomIsBelow u constants atom → AtomIsBelow (u + e) constants atom
          wider u e atom low = slots atom.args low
            where
              slots : (ss : List Slot) → AllByRecursion (SlotIsBelow u constants) ss → AllByRecursion (SlotIsBelow (u + e) constants) ss
              slots [] low = tt
              slots (Variable i ∷ ss) low = ((let a : i < u = low.0 in omega arith), slots ss low.1)
              slots (Constant c ∷ ss) low = (low.0, slots ss low.1)
      go (goal_of.Disjunct number base) are told =
          let found = told is.atoms are.0 in
          let form : Form = found.0 in
          let same : read.now ≡ form.premises = found.2 in
          let g : ℕ = task.goal.existentials in
          let there = get_mapped (atom_at (Rattle.vernacular_tree.specs.Contexts.parameters task ++ counted base g)) is.atoms kept.number is.atom is.atom_is in
          let premise = mapped_get (atom_at (counted base g)) form.premises kept.number _ (ap (λ (fs : List Atom). slice_get fs kept.number) (found.1.same base) ∙ there) in (
            premise.0,
            subst (λ (atoms : List Atom). slice_get atoms kept.number ≡ Some premise.0) (sym same) premise.1,
            record {
              count = g;
              constants = found.1.constants;
              below = each_get (AtomIsBelow g found.1.constants) form.premises kept.number premise.0 found.1.below premise.1;
              fact_is = is.goal_is ∙ ap (λ (vs : List ℕ). atom_at vs is.atom) are.1 ∙ sym premise.2;
            },
          )
