-- Facts that are known to stand before a step, and a step all of whose facts do.
use Rattle.std.proofs.Common.{◌≡◌, ◌≢◌, ℕ, zero, suc, ◌+◌, ◌<◌, inl, inr, Bool, true, false, not, List, [], ◌∷◌, ◌++◌, map, take, drop, length, slice_get, slice_index, Option, Some, None, IfSome, Bor, refl, ap, sym, ◌∙◌, subst, arith}
use Rattle.std.proofs.lemmas.List.{map-append}
use Rattle.std.specs.List.{AllByRecursion}
use Rattle.std.specs.Option.{option_copied}
use Rattle.std.specs.Bool.{beq}
use Rattle.text_core.specs.Lists.{SomeOf, IsAmong}
use Rattle.text_core.proofs.Laws.{each_append, each_get, each_mapped, some_back, some_front, some_at, take_next}
use Rattle.logic_core.specs.Forms.{IsWellFormed, AtomIsBelow, SlotIsBelow}
use Rattle.logic_core.specs.declared.form.Slot.{Slot}
use Rattle.logic_core.specs.declared.form.Slot.TheVariants.{Variable, Constant}
use Rattle.logic_core.specs.declared.form.Atom.{Atom}
use Rattle.logic_core.specs.declared.form.Form.{Form}
use Rattle.vernacular_tree.specs.Carries.{slot_image, image, HasElements}
use Rattle.vernacular_tree.specs.Contexts.{Task, counted, slot_at, atom_at}
use Rattle.vernacular_tree.specs.Witnessed.{LineIsBelow}
use Rattle.vernacular_tree.specs.declared.context.Line.{Line}
use Rattle.vernacular_tree.specs.declared.context.Line.TheVariants.{Facts}
use Rattle.vernacular_tree.specs.declared.context.Context.{Context}
use Rattle.proof_plans.specs.declared.draft.Node.{Node}
use Rattle.proof_plans.specs.declared.draft.PlanStep.{PlanStep}
use Rattle.proof_plans.specs.declared.draft.PlanTie.TheVariants as tie
use Rattle.proof_plans.specs.declared.scene.Scene.{Scene}
use Rattle.proof_plans.specs.Runs.{Case, Above, Fire, lists_of, Has, all_facts, root_of}
use Rattle.proof_plans.specs.Embeds.{branch_image, IsBefore}
use Rattle.proof_plans.specs.Moves.{lists_in}
use Rattle.proof_plans.specs.Drafts.{Drafted, AreListed, IsStep, IsCase, IsBranch}
use Rattle.proof_plans.specs.Hopes.{Hope}
use Rattle.proof_plans.specs.Scenes.{IsScene, Reads, list_base, slot_variable}
use Rattle.proof_plans.specs.Repeats.{fact_of, HasSame, IsGiven, IsInCases, IsOfStep, StandsBefore}
use Rattle.proof_plans.proofs.Reading.{slot_reads, listed_reads, get_mapped}
use Rattle.proof_plans.proofs.Searched.{agrees}
use Rattle.proof_plans.proofs.Steps.{step_at}
use Rattle.proof_plans.proofs.Guide.{lists_image}
use Rattle.proof_plans.proofs.Placed.{tie_at, tie_before, tie_under}
use Rattle.proof_plans.proofs.Seen.{has_down}
use Rattle.proof_plans.proofs.Tying.{both_at}

-- the arguments of a fact
abbrev pub slots_of : List ℕ → ℕ → List Slot → List Slot
slots_of values base slots = map (λ slot. Constant (slice_index values (slot_variable base slot))) slots

-- an atom at variables in a row stands for its fact
pub fact_reads : (values : List ℕ) (atom : Atom) (base : ℕ) (fact : Atom) → Reads atom base fact → image values fact ≡ fact_of values base atom
fact_reads values atom base fact r =
    ap (image values) r.fact_is ∙ ap (λ (args : List Slot). record { positive = atom.positive; symbol = atom.symbol; args = args }) (go atom.args r.below)
  where
    go : (slots : List Slot) → AllByRecursion (SlotIsBelow r.count r.constants) slots → map (slot_image values) (map (slot_at (counted base r.count)) slots) ≡ slots_of values base slots
    go [] h = refl
    go (s ∷ ss) h =
        let first : slot_image values (slot_at (counted base r.count) s) ≡ Constant (slice_index values (slot_variable base s)) = ap (slot_image values) (slot_reads r.count r.constants base s h.0) in
        let rest = go ss h.1 in cc

-- lists of atoms at variables in a row stand for those of their facts
lists_read : (values : List ℕ) (base count constants : ℕ) (lists : List (List Atom)) → AllByRecursion (AllByRecursion (AtomIsBelow count constants)) lists
    → map (map (image values)) (map (map (atom_at (counted base count))) lists) ≡ map (map (fact_of values base)) lists
lists_read values base count constants [] h = refl
lists_read values base count constants (l ∷ ls) h = let first = atoms l h.0 in let rest = lists_read values base count constants ls h.1 in cc
  where
    atoms : (rest : List Atom) → AllByRecursion (AtomIsBelow count constants) rest → map (image values) (map (atom_at (counted base count)) rest) ≡ map (fact_of values base) rest
    atoms [] h = refl
    atoms (a ∷ rest) h =
        let first : image values (atom_at (counted base count) a) ≡ fact_of values base a
        = fact_reads values a base (atom_at (counted base count) a) (record { count = count; constants = constants; below = h.0; fact_is = refl }) in
        let others = atoms rest h.1 in cc

-- one more slot stands for one element
pub same_next : (values : List ℕ) (base other_base : ℕ) (xs ys : List Slot) (k : ℕ) (x y : Slot) → slice_get xs k ≡ Some x → slice_get ys k ≡ Some y
    → slots_of values other_base (take k ys) ≡ slots_of values base (take k xs) → slice_index values (slot_variable other_base y) ≡ slice_index values (slot_variable base x)
    → slots_of values other_base (take (k + 1) ys) ≡ slots_of values base (take (k + 1) xs)
same_next values base other_base xs ys k x y a b old same =
    let ends : slots_of values other_base (take k ys) ++ Constant (slice_index values (slot_variable other_base y)) ∷ [] ≡ slots_of values base (take k xs) ++ Constant (slice_index values (slot_variable base x)) ∷ []
    = λ i. old i ++ Constant (same i) ∷ [] in
    ap (slots_of values other_base) (take_next ys k y b) ∙ map-append _ (take k ys) (y ∷ []) ∙ ends
    ∙ sym (ap (slots_of values base) (take_next xs k x a) ∙ map-append _ (take k xs) (x ∷ []))

-- atoms of one sign, one symbol and the same arguments stand for one fact
pub same_facts : (values : List ℕ) (base other_base : ℕ) (atom other : Atom) → not (beq atom.positive other.positive) ≡ false → atom.symbol ≡ other.symbol
    → slots_of values other_base other.args ≡ slots_of values base atom.args → fact_of values other_base other ≡ fact_of values base atom
same_facts values base other_base atom other signs symbols args =
    let positive = one_sign atom.positive other.positive signs in
    λ i. record { positive = positive i; symbol = sym symbols i; args = args i }
  where
    one_sign : (p q : Bool) → not (beq p q) ≡ false → q ≡ p
    one_sign true true e = refl
    one_sign true false e = absurd (cc)
    one_sign false true e = absurd (cc)
    one_sign false false e = refl

-- what holds of each item of a front and of the next one holds of each item of the longer front
pub each_next : {X : Type 0} (P : X → Type 0) (xs : List X) (k : ℕ) (x : X) → slice_get xs k ≡ Some x → AllByRecursion P (take k xs) → P x → AllByRecursion P (take (k + 1) xs)
each_next P xs k x is front next = subst (AllByRecursion P) (sym (take_next xs k x is)) (each_append P (take k xs) (x ∷ []) front (next, tt))

-- the one item of a list
pub only_read : {X : Type 0} (result : Option (Bor X)) (xs : List X) → option_copied result ≡ slice_get xs 0 → length xs ≡ 1 → IfSome result (λ item. xs ≡ item.now ∷ [])
only_read None xs is long = tt
only_read (Some item) [] is long = absurd (omega arith)
only_read (Some item) (x ∷ []) is long = let told : Some item.now ≡ Some x = is in let same : item.now ≡ x = cc in ap (λ (y : _). y ∷ []) (sym same)
only_read (Some item) (x ∷ y ∷ xs) is long = absurd (omega arith)

-- an item is among the others
get_among : {X : Type 0} (xs : List X) (k : ℕ) (x : X) → slice_get xs k ≡ Some x → IsAmong x xs
get_among xs k x is = some_at (λ y. y ≡ x) xs k x is refl

-- a fact of the context is its own image
given_fact : (n : ℕ) (values : List ℕ) → ((a : ℕ) → a < n → slice_index values a ≡ a) → (fact : Atom) → HasElements n fact → fact_of values 0 fact ≡ fact
given_fact n values itself fact low = ap (λ (args : List Slot). record { positive = fact.positive; symbol = fact.symbol; args = args }) (go fact.args low)
  where
    go : (slots : List Slot) → AllByRecursion (SlotIsBelow 0 n) slots → slots_of values 0 slots ≡ slots
    go [] h = refl
    go (Variable v ∷ ss) h = let no : v < 0 = h.0 in absurd (omega arith)
    go (Constant a ∷ ss) h = let first : slice_index values a ≡ a = itself a h.0 in let rest = go ss h.1 in cc

-- a fact of a line is one of the context
line_among : (lines : List Line) (k : ℕ) (facts : List Atom) → slice_get lines k ≡ Some (Facts facts) → (fact : Atom) → IsAmong fact facts → IsAmong fact (all_facts lines)
line_among [] k facts is fact among = absurd (cc)
line_among (line ∷ lines) zero facts is fact among =
    let same : line ≡ Facts facts = cc in
    subst (λ (l : Line). IsAmong fact (all_facts (l ∷ lines))) (sym same) (some_front (λ f. f ≡ fact) facts (all_facts lines) among)
line_among (line ∷ lines) (suc k) facts is fact among =
    some_back (λ f. f ≡ fact) (Rattle.proof_plans.specs.Runs.line_facts line) (all_facts lines) (line_among lines k facts is fact among)

-- what is in the back of images is in the images
pub some_drop : {X Y : Type 0} (P : Y → Type 0) (f : X → Y) (xs : List X) (k : ℕ) → SomeOf P (map f (drop k xs)) → SomeOf P (map f xs)
some_drop P f xs zero h = h
some_drop P f [] (suc k) h = h
some_drop P f (x ∷ xs) (suc k) h = inr (some_drop P f xs k h)

module _ (scene : Scene) (d : Drafted) (base : ℕ) (atom : Atom) where
  -- a fact of a line is one of the context
  pub given_among : (number : ℕ) (line : Line) → slice_get scene.lines.now number ≡ Some line → ((facts : List Atom) × (line ≡ Facts facts) × HasSame d base atom 0 facts) → IsGiven scene d base atom
  given_among number line line_is same = λ task lent n is h.
      let facts : List Atom = same.0 in
      let there : slice_get lent.lines number ≡ Some (Facts facts) = ap (λ (ls : List Line). slice_get ls number) (sym is.lines_are) ∙ line_is ∙ ap Some same.1 in
      let low : LineIsBelow lent.elements (Facts facts) = each_get (LineIsBelow lent.elements) lent.lines number (Facts facts) h.ok.lines there in
      let has = each_get (HasElements lent.elements) facts same.2.number same.2.fact low same.2.fact_is in
      let one : same.2.fact ≡ fact_of h.values base atom
      = sym (given_fact lent.elements h.values h.embeds.itself same.2.fact has) ∙ same.2.same h.values (agrees task lent n d h) in
      let among = line_among lent.lines number facts there same.2.fact (get_among facts same.2.number same.2.fact same.2.fact_is) in
      subst (λ (f : Atom). IsAmong f (all_facts lent.lines)) one among

  -- a fact of the context stands before each step
  pub given_stands : IsGiven scene d base atom → (step : ℕ) → StandsBefore scene d step base atom
  given_stands given step = λ task lent n is h index fire index_is fire_is.
      let rooted = h.run.rooted index fire fire_is in
      inl (subst (SomeOf (λ case. IsAmong (fact_of h.values base atom) case.facts)) (sym rooted.1)
      (some_back (λ case. IsAmong (fact_of h.values base atom) case.facts) rooted.0 (root_of lent) (inl (given task lent n is h))))

  -- the case with which a branch begins has a fact
  pub case_has : (node : ℕ) (kept : Node) (facts : List Atom) → node ≢ 0 → slice_get d.nodes node ≡ Some kept
      → ((task : Task) (lent : Context) (atoms : List Atom) (variables : List ℕ) → IsScene task lent scene → AreListed task lent kept.of atoms variables → facts ≡ atoms)
      → HasSame d base atom (list_base kept.of) facts → IsInCases scene d base atom node
  case_has node kept facts inner kept_is listed same task lent n is h branch branch_is = go branch branch_is
    where
      at_case : (case : Case) (upper : List Case) → IsCase task lent kept case → SomeOf (λ c. IsAmong (fact_of h.values base atom) c.facts) (branch_image h.values (case ∷ upper))
      at_case case upper c =
          let equal : facts ≡ c.atoms = listed task lent c.atoms c.variables is c.listed in
          let there : slice_get c.atoms same.number ≡ Some same.fact = subst (λ (fs : List Atom). slice_get fs same.number ≡ Some same.fact) equal same.fact_is in
          let reads = listed_reads h.constants task h.right lent h.ok kept.of c.atoms c.variables same.fact same.number c.listed there in
          let one : image h.values (atom_at c.variables same.fact) ≡ fact_of h.values base atom
          = fact_reads h.values same.fact (list_base kept.of) (atom_at c.variables same.fact) reads ∙ same.same h.values (agrees task lent n d h) in
          let image_there = get_mapped (image h.values) (map (atom_at c.variables) c.atoms) same.number (atom_at c.variables same.fact) (get_mapped (atom_at c.variables) c.atoms same.number same.fact there) in
          let among = get_among (map (image h.values) (map (atom_at c.variables) c.atoms)) same.number (image h.values (atom_at c.variables same.fact)) image_there in
          inl (subst (λ (f : Atom). IsAmong f (map (image h.values) case.facts)) one
          (subst (λ (fs : List Atom). IsAmong (image h.values (atom_at c.variables same.fact)) (map (image h.values) fs)) (sym c.facts_are) among))

      go : (branch : List Case) → IsBranch task lent d.nodes node branch → SomeOf (λ case. IsAmong (fact_of h.values base atom) case.facts) (branch_image h.values branch)
      go [] b = absurd b
      go (case ∷ upper) (inl root) = absurd (inner root.0)
      go (case ∷ upper) (inr b) =
          let one : Some b.0 ≡ Some kept = sym b.1 ∙ kept_is in
          let equal : b.0 ≡ kept = cc in
          at_case case upper (subst (λ (k : Node). IsCase task lent k case) equal b.3)

  -- a fact of a branch below which a step stands
  pub under_stands : (k step node : ℕ) → slice_get d.ties k ≡ Some (tie.Under step node) → IsInCases scene d base atom node → StandsBefore scene d step base atom
  under_stands k step node tie_is cases = λ task lent n is h index fire index_is fire_is.
      let t = tie_at task lent d.nodes h.values h.fires h.indices d.ties h.plan.ties h.keeps.ties_are h.embeds.ties k (tie.Under step node) tie_is in
      let u = tie_under task lent d.nodes h.values h.fires h.indices step node t.0 t.1 t.2 in
      let some = cases task lent n is h u.0 u.1 in
      let told : Some u.2.index ≡ Some index = sym u.2.index_is ∙ index_is in
      let same : u.2.index ≡ index = cc in
      let there : slice_get h.fires index ≡ Some u.2.fire = subst (λ (i : ℕ). slice_get h.fires i ≡ Some u.2.fire) same u.2.fire_is in
      let both : Some u.2.fire ≡ Some fire = sym there ∙ fire_is in
      let equal : u.2.fire ≡ fire = cc in
      let above = subst (λ (f : Fire). Above (branch_image h.values u.0) f.branch) equal u.2.stands in
      inl (subst (SomeOf (λ case. IsAmong (fact_of h.values base atom) case.facts)) (sym above.1)
      (some_back (λ case. IsAmong (fact_of h.values base atom) case.facts) above.0 (branch_image h.values u.0) some))

  -- a fact of a step before
  module _ (k lower upper : ℕ) (tie_is : slice_get d.ties k ≡ Some (tie.Before lower upper)) where
    -- the one step comes before the other
    come_before : (task : Task) (lent : Context) (n : ℕ) (h : Hope task lent n d) → IsBefore h.fires h.indices lower upper
    come_before task lent n h =
        let t = tie_at task lent d.nodes h.values h.fires h.indices d.ties h.plan.ties h.keeps.ties_are h.embeds.ties k (tie.Before lower upper) tie_is in
        tie_before task lent d.nodes h.values h.fires h.indices lower upper t.0 t.1 t.2

    -- the later step is the application that is told
    later_same : {fires : List Fire} {indices : List ℕ} (b : IsBefore fires indices lower upper) (index : ℕ) (fire : Fire) → slice_get indices upper ≡ Some index → slice_get fires index ≡ Some fire
        → (b.upper ≡ index) × (b.later ≡ fire)
    later_same {fires = fires} b index fire index_is fire_is =
        let told : Some b.upper ≡ Some index = sym b.upper_is ∙ index_is in
        let same : b.upper ≡ index = cc in
        let there : slice_get fires index ≡ Some b.later = subst (λ (i : ℕ). slice_get fires i ≡ Some b.later) same b.later_is in
        let both : Some b.later ≡ Some fire = sym there ∙ fire_is in
        (same, (let equal : b.later ≡ fire = cc in equal))

    pub made_stands : IsOfStep scene d base atom lower → StandsBefore scene d upper base atom
    made_stands made = λ task lent n is h index fire index_is fire_is.
        let b = come_before task lent n h in
        let same = later_same b index fire index_is fire_is in
        let facts = made task lent n is h b.lower b.fire b.lower_is b.fire_is in
        inr (record {
          index = b.lower;
          before = subst (λ (i : ℕ). b.lower < i) same.0 b.ordered;
          seen = record { fire = b.fire; is = b.fire_is; above = subst (λ (f : Fire). Above b.fire.branch f.branch) same.1 b.above };
          facts = facts.0;
          one = facts.1;
          among = facts.2;
        })

    pub lower_stands : StandsBefore scene d lower base atom → StandsBefore scene d upper base atom
    lower_stands stands = λ task lent n is h index fire index_is fire_is.
        let b = come_before task lent n h in
        let same = later_same b index fire index_is fire_is in
        let less : b.lower < index = subst (λ (i : ℕ). b.lower < i) same.0 b.ordered in
        has_down h.fires (fact_of h.values base atom) b.lower index b.fire.branch fire.branch (omega arith)
        (subst (λ (f : Fire). Above b.fire.branch f.branch) same.1 b.above) (stands task lent n is h b.lower b.fire b.lower_is b.fire_is)

module _ (scene : Scene) (d : Drafted) (step : ℕ) (kept : PlanStep) (form : Form) (kept_is : slice_get d.steps step ≡ Some kept) (form_is : slice_get scene.forms.now kept.form ≡ Some form) where
  -- the application of a step, and its lists
  record Applied (task : Task) (lent : Context) (n : ℕ) (h : Hope task lent n d) : Type 0 where
    index : ℕ
    index_is : slice_get h.indices step ≡ Some index
    fire : Fire
    fire_is : slice_get h.fires index ≡ Some fire
    form_same : fire.form ≡ form
    lists : lists_of fire ≡ map (map (fact_of h.values kept.base)) form.disjuncts

  applied : (task : Task) (lent : Context) (n : ℕ) → IsScene task lent scene → (h : Hope task lent n d) → Applied task lent n h
  applied task lent n is h =
      let s = both_at (IsStep task lent) d.steps h.plan.steps h.keeps.steps_are step kept kept_is in
      let found = step_at h.fires h.values h.plan.steps h.indices h.embeds.steps step s.0 s.1 in
      let there : slice_get task.forms kept.form ≡ Some form = ap (λ (fs : List Form). slice_get fs kept.form) (sym is.forms_are) ∙ form_is in
      let told : Some s.0.form ≡ Some form = sym s.2.form_is ∙ there in
      let same : s.0.form ≡ form = cc in
      let formed : IsWellFormed h.constants form = each_get (IsWellFormed h.constants) task.forms kept.form form h.right.forms there in
      let images = lists_image h.constants task h.right lent h.ok.start h.fires h.run h.plan h.values h.indices h.left h.embeds s.0 found.0 found.2 in
      let own : lists_in s.0 ≡ map (map (atom_at (counted kept.base (form.universals + form.existentials)))) form.disjuncts
      = ap (λ (f : Form). map (map (atom_at (counted s.0.base (f.universals + f.existentials)))) f.disjuncts) same
      ∙ ap (λ (b : ℕ). map (map (atom_at (counted b (form.universals + form.existentials)))) form.disjuncts) s.2.base_is in
      record {
        index = found.0;
        index_is = found.1;
        fire = found.2.fire;
        fire_is = found.2.is;
        form_same = sym found.2.form_is ∙ same;
        lists = sym images ∙ ap (map (map (image h.values))) own ∙ lists_read h.values kept.base (form.universals + form.existentials) h.constants form.disjuncts formed.disjuncts;
      }

  -- a fact of its only list is one that a step makes
  pub of_step : (base : ℕ) (atom : Atom) (facts : List Atom) → form.disjuncts ≡ facts ∷ [] → HasSame d base atom kept.base facts → IsOfStep scene d base atom step
  of_step base atom facts only same = λ task lent n is h index fire index_is fire_is.
      let a = applied task lent n is h in
      let told : Some a.index ≡ Some index = sym a.index_is ∙ index_is in
      let at : a.index ≡ index = cc in
      let there : slice_get h.fires index ≡ Some a.fire = subst (λ (i : ℕ). slice_get h.fires i ≡ Some a.fire) at a.fire_is in
      let both : Some a.fire ≡ Some fire = sym there ∙ fire_is in
      let equal : a.fire ≡ fire = cc in
      let among = get_among (map (fact_of h.values kept.base) facts) same.number (fact_of h.values kept.base same.fact)
      (get_mapped (fact_of h.values kept.base) facts same.number same.fact same.fact_is) in (
        map (fact_of h.values kept.base) facts,
        ap lists_of (sym equal) ∙ a.lists ∙ ap (map (map (fact_of h.values kept.base))) only,
        subst (λ (f : Atom). IsAmong f (map (fact_of h.values kept.base) facts)) (same.same h.values (agrees task lent n d h)) among,
      )

  -- a step without new elements whose facts all stand before it is one of no proof
  pub barren_hopeless : (facts : List Atom) → form.existentials ≡ 0 → form.disjuncts ≡ facts ∷ [] → AllByRecursion (StandsBefore scene d step kept.base) facts
      → (task : Task) (lent : Context) (n : ℕ) → IsScene task lent scene → Hope task lent n d → ⊥
  barren_hopeless facts none only stand task lent n is h =
      let a = applied task lent n is h in
      h.tight a.index a.fire a.fire_is (record {
        facts = map (fact_of h.values kept.base) facts;
        one = a.lists ∙ ap (map (map (fact_of h.values kept.base))) only;
        none = ap (λ (f : Form). f.existentials) a.form_same ∙ none;
        stand = each_mapped {P = StandsBefore scene d step kept.base} {Q = StandsBefore scene d step kept.base} (λ fact. Has h.fires fact a.index a.fire.branch) (fact_of h.values kept.base)
            (λ atom s t. s task lent n is h a.index a.fire a.index_is a.fire_is) facts stand stand;
      })
