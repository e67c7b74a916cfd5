-- What stands in a context stands in another that it carries over to, at the images of its
-- elements.
use Rattle.std.proofs.Common.{◌≡◌, ℕ, zero, suc, ◌+◌, ◌<◌, ◌≤◌, inl, inr, ⊎_elim, List, [], ◌∷◌, ◌++◌, map, length, slice_get, slice_index, Some, refl, ap, sym, ◌∙◌, subst, arith, length-append, append-nil}
use Rattle.std.proofs.lemmas.List.{get_or-map, get_or_append_left, length-map}
use Rattle.std.specs.List.{AllByRecursion}
use Rattle.text_core.specs.Lists.{SomeOf}
use Rattle.logic_core.specs.Forms.{IsWellFormed, SlotIsBelow, AtomIsBelow}
use Rattle.logic_core.specs.declared.form.Slot.{Slot}
use Rattle.logic_core.specs.declared.form.Slot.TheVariants.{Variable, Constant}
use Rattle.logic_core.specs.declared.form.Atom.{Atom}
use Rattle.logic_core.specs.declared.form.Form.{Form}
use Rattle.vernacular_tree.specs.Contexts.{Task, counted, slot_at, atom_at, LineHas, Stands, line_of, with_facts, after_mp}
use Rattle.vernacular_tree.specs.Rules.{AreKnown, IsInstance}
use Rattle.vernacular_tree.specs.Tasks.{IsTask}
use Rattle.vernacular_tree.specs.Carries.{slot_image, image, HasElements, ImagesStand, LineCarries, Carries}
use Rattle.vernacular_tree.specs.declared.context.Line.{Line}
use Rattle.vernacular_tree.specs.declared.context.Line.TheVariants.{Facts, Cases, Falsum}
use Rattle.vernacular_tree.specs.declared.context.Context.{Context}
use Rattle.text_core.proofs.Laws.{each_map, each_append, each_index, each_mapped, each_both, some_with, some_both, some_at, some_mapped, each_same, each_image_is_among, get_front, get_behind, some_front}
use Rattle.vernacular_tree.proofs.Numbers.{below_greater, counted_length, counted_below, both_read}

-- a longer list keeps what the elements stand for
abbrev pub Keeps : List ℕ → List ℕ → Type 0
Keeps e e2 = (a : ℕ) → a < length e → (a < length e2) × (slice_index e2 a ≡ slice_index e a)

-- each list keeps what its own elements stand for
pub keeps_self : (e : List ℕ) → Keeps e e
keeps_self e a below = (below, refl)

-- a list with more behind it keeps what the elements stand for
pub keeps_more : (e ys : List ℕ) → Keeps e (e ++ ys)
keeps_more e ys a below = let long = length-append e ys in (omega (arith, long), get_or_append_left e ys 0 a below)

-- a slot below the length of a list is below the length of one that keeps it
slot_kept : (e e2 : List ℕ) → Keeps e e2 → (s : Slot) → SlotIsBelow 0 (length e) s → SlotIsBelow 0 (length e2) s
slot_kept e e2 keeps (Variable v) h = h
slot_kept e e2 keeps (Constant a) h = (keeps a h).0

-- a slot has the same image by a list that keeps the other
slot_same : (e e2 : List ℕ) → Keeps e e2 → (s : Slot) → SlotIsBelow 0 (length e) s → slot_image e2 s ≡ slot_image e s
slot_same e e2 keeps (Variable v) h = refl
slot_same e e2 keeps (Constant a) h = ap Constant (keeps a h).1

-- a fact with elements below the length of a list has them below that of one that keeps it
pub elements_kept : (e e2 : List ℕ) → Keeps e e2 → (fact : Atom) → HasElements (length e) fact → HasElements (length e2) fact
elements_kept e e2 keeps fact h = each_map (slot_kept e e2 keeps) fact.args h

-- a fact has the same image by a list that keeps the other
pub image_same : (e e2 : List ℕ) → Keeps e e2 → (fact : Atom) → HasElements (length e) fact → image e2 fact ≡ image e fact
image_same e e2 keeps fact h =
    ap (λ (args : List Slot). record { positive = fact.positive; symbol = fact.symbol; args = args })
    (each_same (slot_image e2) (slot_image e) fact.args (each_map (slot_same e e2 keeps) fact.args h))

-- the other context with more lines
pub stands_more : (to more : Context) (lines : List Line) → more.lines ≡ to.lines ++ lines → (fact : Atom) → Stands to fact → Stands more fact
stands_more to more lines is fact h = rw is (some_front (LineHas fact) to.lines lines h)

-- images that stand still stand by a list that keeps the other, in a context with more lines
images_kept : (e e2 : List ℕ) → Keeps e e2 → (to more : Context) (lines : List Line) → more.lines ≡ to.lines ++ lines
    → (facts : List Atom) → AllByRecursion (HasElements (length e)) facts → ImagesStand e to facts → ImagesStand e2 more facts
images_kept e e2 keeps to more lines is facts within stand =
    each_both {R = λ fact. Stands more (image e2 fact)}
    (λ fact has stands. subst (Stands more) (sym (image_same e e2 keeps fact has)) (stands_more to more lines is (image e fact) stands)) facts within stand

-- lists of facts have the same images by a list that keeps the other
lists_same : (e e2 : List ℕ) → Keeps e e2 → (lists : List (List Atom)) → AllByRecursion (AllByRecursion (HasElements (length e))) lists
    → map (map (image e2)) lists ≡ map (map (image e)) lists
lists_same e e2 keeps lists within =
    each_same (map (image e2)) (map (image e)) lists
    (each_map (λ facts has. each_same (image e2) (image e) facts (each_map (image_same e e2 keeps) facts has)) lists within)

-- a line that carries over to a context carries over to one with more lines
pub line_kept : (e e2 : List ℕ) → Keeps e e2 → (to more : Context) (lines : List Line) → more.lines ≡ to.lines ++ lines
    → (line : Line) → LineCarries e to line → LineCarries e2 more line
line_kept e e2 keeps to more lines is (Facts facts) h = (each_map (elements_kept e e2 keeps) facts h.0, images_kept e e2 keeps to more lines is facts h.0 h.1)
line_kept e e2 keeps to more lines is (Cases lists) h = (
  each_map (λ facts has. each_map (elements_kept e e2 keeps) facts has) lists h.0,
  ⊎_elim (λ l. inl (l.0, rw (is, lists_same e e2 keeps lists h.0) (get_front to.lines lines l.0 (Cases (map (map (image e)) lists)) l.1)))
      (λ r. inr (some_both (λ facts has stand. images_kept e e2 keeps to more lines is facts has stand) lists h.0 r)) h.1,
)
line_kept e e2 keeps to more lines is Falsum h = rw is (some_front (λ line. line ≡ Falsum) to.lines lines h)

-- the new line of disjuncts, where its image is a line of the other context
pub new_line : (e : List ℕ) (to : Context) (number : ℕ) (lists : List (List Atom)) → AllByRecursion (AllByRecursion (HasElements (length e))) lists
    → slice_get to.lines number ≡ Some (line_of (map (map (image e)) lists)) → LineCarries e to (line_of lists)
new_line e to number [] within is = some_at (λ line. line ≡ Falsum) to.lines number Falsum is refl
new_line e to number (facts ∷ []) within is =
    (within.0, each_map (λ fact among. some_at (LineHas (image e fact)) to.lines number (Facts (map (image e) facts)) is among) facts (each_image_is_among (image e) facts))
new_line e to number (facts ∷ more ∷ rest) within is = (within, inl (number, is))

-- the new line of disjuncts, where the images of one of them stand
pub witnessed_line : (e : List ℕ) (to : Context) (lists : List (List Atom)) → AllByRecursion (AllByRecursion (HasElements (length e))) lists
    → SomeOf (ImagesStand e to) lists → LineCarries e to (line_of lists)
witnessed_line e to [] within h = absurd h
witnessed_line e to (facts ∷ []) within (inl h) = (within.0, h)
witnessed_line e to (facts ∷ []) within (inr h) = absurd h
witnessed_line e to (facts ∷ more ∷ rest) within h = (within, inr h)

-- a fact of a line that carries over stands at its image in the other context
in_line : (e : List ℕ) (to : Context) (fact : Atom) (line : Line) → LineCarries e to line → LineHas fact line → Stands to (image e fact)
in_line e to fact (Facts facts) h has = some_with (λ other stands same. subst (λ (f : Atom). Stands to (image e f)) same stands) facts h.1 has
in_line e to fact (Cases lists) h has = absurd has
in_line e to fact Falsum h has = absurd has

-- atoms of forms at elements
module _ (constants n : ℕ) (xs : List ℕ) (long : length xs ≡ n) where
  -- a slot of a form stands at an element below the bound of the constants and the elements
  slot_at_within : (m : ℕ) → constants ≤ m → AllByRecursion (λ x. x < m) xs → (s : Slot) → SlotIsBelow n constants s → SlotIsBelow 0 m (slot_at xs s)
  slot_at_within m le known (Variable v) h = each_index (λ x. x < m) xs v (omega arith) known
  slot_at_within m le known (Constant c) h = omega arith

  -- slots of a form stand at elements below the bound of the constants and the elements
  slots_at_within : (m : ℕ) → constants ≤ m → AllByRecursion (λ x. x < m) xs → (ss : List Slot) → AllByRecursion (SlotIsBelow n constants) ss
      → AllByRecursion (SlotIsBelow 0 m) (map (slot_at xs) ss)
  slots_at_within m le known [] h = tt
  slots_at_within m le known (s ∷ ss) h = (slot_at_within m le known s h.0, slots_at_within m le known ss h.1)

  -- an atom of a form stands at elements below the bound of the constants and the elements
  pub atom_at_within : (m : ℕ) → constants ≤ m → AllByRecursion (λ x. x < m) xs → (atom : Atom) → AtomIsBelow n constants atom → HasElements m (atom_at xs atom)
  atom_at_within m le known atom h = slots_at_within m le known atom.args h

  module _ (e : List ℕ) (fixed : (c : ℕ) → c < constants → slice_index e c ≡ c) where
    -- the image of a slot at elements is the slot at their images
    slot_at_image : (s : Slot) → SlotIsBelow n constants s → slot_image e (slot_at xs s) ≡ slot_at (map (slice_index e) xs) s
    slot_at_image (Variable v) h = ap Constant (sym (get_or-map (slice_index e) xs v 0 0 (omega arith)))
    slot_at_image (Constant c) h = ap Constant (fixed c h)

    -- the images of slots at elements are the slots at their images
    slots_at_image : (ss : List Slot) → AllByRecursion (SlotIsBelow n constants) ss → map (slot_image e) (map (slot_at xs) ss) ≡ map (slot_at (map (slice_index e) xs)) ss
    slots_at_image [] h = refl
    slots_at_image (s ∷ ss) h = let first = slot_at_image s h.0 in let rest = slots_at_image ss h.1 in cc

    -- the image of an atom at elements is the atom at their images
    pub atom_at_image : (atom : Atom) → AtomIsBelow n constants atom → image e (atom_at xs atom) ≡ atom_at (map (slice_index e) xs) atom
    atom_at_image atom h = ap (λ (args : List Slot). record { positive = atom.positive; symbol = atom.symbol; args = args }) (slots_at_image atom.args h)

    -- the images of atoms at elements are the atoms at their images
    atoms_at_image : (atoms : List Atom) → AllByRecursion (AtomIsBelow n constants) atoms → map (image e) (map (atom_at xs) atoms) ≡ map (atom_at (map (slice_index e) xs)) atoms
    atoms_at_image [] h = refl
    atoms_at_image (a ∷ atoms) h = let first = atom_at_image a h.0 in let rest = atoms_at_image atoms h.1 in cc

    -- the images of lists of atoms at elements are the lists at their images
    pub lists_at_image : (lists : List (List Atom)) → AllByRecursion (AllByRecursion (AtomIsBelow n constants)) lists
        → map (map (image e)) (map (map (atom_at xs)) lists) ≡ map (map (atom_at (map (slice_index e) xs))) lists
    lists_at_image [] h = refl
    lists_at_image (l ∷ lists) h = let first = atoms_at_image l h.0 in let rest = lists_at_image lists h.1 in cc

module _ (constants : ℕ) (task : Task) (right : IsTask constants task) (e : List ℕ) (from to : Context) (c : Carries task e from to) where
  -- each constant stands for itself
  pub constants_fixed : (k : ℕ) → k < constants → slice_index e k ≡ k
  constants_fixed k below = let start = right.start in (c.start_fixed k (omega arith)).1

  -- each constant is an element of the first context
  pub constants_known : constants ≤ length e
  constants_known = go constants refl
    where
      go : (k : ℕ) → constants ≡ k → constants ≤ length e
      go zero is = omega arith
      go (suc k) is = let start = right.start in let last : k < from.elements = (c.start_fixed k (omega arith)).0 in omega (arith, c.length_is)

  -- a fact that stands in the first context stands at its image in the other
  pub standing_carries : (fact : Atom) → Stands from fact → Stands to (image e fact)
  standing_carries fact h = some_with (in_line e to fact) from.lines c.lines h

  -- elements that the first context knows have images that the other knows
  pub args_carry : (count : ℕ) (args : List ℕ) → AreKnown from count args → AreKnown to count (map (slice_index e) args)
  args_carry count args h =
      let known : AllByRecursion (λ x. x < length e) args = rw c.length_is h.known in
      record {
        length_is = length-map args (slice_index e) ∙ h.length_is;
        known = each_mapped {P = λ x. x < length e} {Q = λ x. x < length e} (λ x. x < to.elements) (slice_index e)
            (λ x below _. each_index (λ y. y < to.elements) e x below c.known) args known known;
      }

  -- atoms that stand in the first context stand at the images of their elements in the other
  pub atoms_carry : (n : ℕ) (xs : List ℕ) → length xs ≡ n → (atoms : List Atom) → AllByRecursion (AtomIsBelow n constants) atoms
      → AllByRecursion (λ atom. Stands from (atom_at xs atom)) atoms → AllByRecursion (λ atom. Stands to (atom_at (map (slice_index e) xs) atom)) atoms
  atoms_carry n xs long atoms below stand =
      each_both (λ atom b stands. subst (Stands to) (atom_at_image constants n xs long e constants_fixed atom b) (standing_carries (atom_at xs atom) stands)) atoms below stand

  -- a form that may be applied in the first context may be applied to the images in the other
  pub instance_carries : (form : Form) (args : List ℕ) → IsWellFormed constants form → IsInstance from form args → IsInstance to form (map (slice_index e) args)
  instance_carries form args formed inst = record {
    args_known = args_carry form.universals args inst.args_known;
    premises = atoms_carry form.universals args inst.args_known.length_is form.premises formed.premises inst.premises;
  }

  -- one more line of facts
  facts_line : (facts : List Atom) (more : Context) (lines : List Line) → more.lines ≡ to.lines ++ lines → more.elements ≡ to.elements
      → LineCarries e more (Facts facts) → Carries task e (with_facts from facts) more
  facts_line facts more lines is same line = record {
    length_is = c.length_is;
    known = rw same c.known;
    start_fixed = c.start_fixed;
    lines = each_append (LineCarries e more) from.lines (Facts facts ∷ []) (each_map (line_kept e e (keeps_self e) to more lines is) from.lines c.lines) (line, tt);
  }

  -- with facts added in the first context and their images in the other, the first still carries
  -- over
  pub facts_carry : (facts : List Atom) → AllByRecursion (HasElements (length e)) facts → Carries task e (with_facts from facts) (with_facts to (map (image e) facts))
  facts_carry facts within =
      facts_line facts (with_facts to (map (image e) facts)) (Facts (map (image e) facts) ∷ []) refl refl
      (new_line e (with_facts to (map (image e) facts)) (length to.lines) (facts ∷ []) (within, tt) (get_behind to.lines (Facts (map (image e) facts)) []))

  -- facts whose images stand already may be added in the first context alone
  pub standing_facts_carry : (facts : List Atom) → AllByRecursion (HasElements (length e)) facts → ImagesStand e to facts → Carries task e (with_facts from facts) to
  standing_facts_carry facts within stand = facts_line facts to [] (sym (append-nil to.lines)) refl (within, stand)

  -- an application of modus ponens, for whose new elements others stand
  module _ (form : Form) (args : List ℕ) (formed : IsWellFormed constants form) (inst : IsInstance from form args) (ys : List ℕ) (many : length ys ≡ form.existentials) where
    -- the elements at which the disjuncts are added: the arguments, then the new ones
    abbrev all_args : List ℕ
    all_args = args ++ counted from.elements form.existentials

    -- there are as many elements as the form has variables
    all_long : length all_args ≡ form.universals + form.existentials
    all_long = omega (arith, length-append args (counted from.elements form.existentials), inst.args_known.length_is, counted_length from.elements form.existentials)

    -- each of these elements has an image
    all_known : AllByRecursion (λ x. x < length (e ++ ys)) all_args
    all_known =
        let long : length (e ++ ys) ≡ length e + length ys = length-append e ys in
        let same : length e ≡ from.elements = c.length_is in
        each_append (λ x. x < length (e ++ ys)) args (counted from.elements form.existentials)
        (below_greater from.elements (length (e ++ ys)) args (omega arith) inst.args_known.known)
        (counted_below from.elements form.existentials (length (e ++ ys)) (omega arith))

    -- the images of these elements: those of the arguments, then those given for the new ones
    all_read : map (slice_index (e ++ ys)) all_args ≡ map (slice_index e) args ++ ys
    all_read = both_read e ys args from.elements form.existentials c.length_is many inst.args_known.known

    -- each constant still stands for itself
    more_fixed : (k : ℕ) → k < constants → slice_index (e ++ ys) k ≡ k
    more_fixed k below = let all = constants_known in get_or_append_left e ys 0 k (omega arith) ∙ constants_fixed k below

    -- the facts of the new line have elements with images
    disjuncts_within : AllByRecursion (AllByRecursion (HasElements (length (e ++ ys)))) (map (map (atom_at all_args)) form.disjuncts)
    disjuncts_within =
        let long : length (e ++ ys) ≡ length e + length ys = length-append e ys in
        let all = constants_known in
        each_mapped (AllByRecursion (HasElements (length (e ++ ys)))) (map (atom_at all_args))
        (λ atoms below also. each_mapped (HasElements (length (e ++ ys))) (atom_at all_args)
        (λ atom b bb. atom_at_within constants (form.universals + form.existentials) all_args all_long (length (e ++ ys)) (omega arith) all_known atom b) atoms below also)
        form.disjuncts formed.disjuncts formed.disjuncts

    -- the images of the new line are the disjuncts at the images of the elements
    disjuncts_image : map (map (image (e ++ ys))) (map (map (atom_at all_args)) form.disjuncts) ≡ map (map (atom_at (map (slice_index e) args ++ ys))) form.disjuncts
    disjuncts_image = lists_at_image constants (form.universals + form.existentials) all_args all_long (e ++ ys) more_fixed form.disjuncts formed.disjuncts
        ∙ ap (λ (zs : List ℕ). map (map (atom_at zs)) form.disjuncts) all_read

    -- where the new line carries over to the other context with more lines, so does the whole
    -- context
    after_carries : (more : Context) (lines : List Line) → more.lines ≡ to.lines ++ lines → to.elements ≤ more.elements → AllByRecursion (λ y. y < more.elements) ys
        → LineCarries (e ++ ys) more (line_of (map (map (atom_at all_args)) form.disjuncts)) → Carries task (e ++ ys) (after_mp from form args) more
    after_carries more lines is le new line =
        let long : length (e ++ ys) ≡ length e + length ys = length-append e ys in
        let same : length e ≡ from.elements = c.length_is in
        record {
          length_is = omega arith;
          known = each_append (λ x. x < more.elements) e ys (below_greater to.elements more.elements e le c.known) new;
          start_fixed = λ a below. let old = c.start_fixed a below in
              (let low : a < from.elements = old.0 in omega arith, get_or_append_left e ys 0 a (let low : a < from.elements = old.0 in omega arith) ∙ old.1);
          lines = each_append (LineCarries (e ++ ys) more) from.lines (line_of (map (map (atom_at all_args)) form.disjuncts) ∷ [])
              (each_map (line_kept e (e ++ ys) (keeps_more e ys) to more lines is) from.lines c.lines) (line, tt);
        }

    -- where the images of a disjunct stand, the other context need not take the step
    pub witness_carries : AllByRecursion (λ y. y < to.elements) ys
        → SomeOf (AllByRecursion (λ atom. Stands to (atom_at (map (slice_index e) args ++ ys) atom))) form.disjuncts → Carries task (e ++ ys) (after_mp from form args) to
    witness_carries known stand =
        let stand2 : SomeOf (AllByRecursion (λ atom. Stands to (atom_at (map (slice_index (e ++ ys)) all_args) atom))) form.disjuncts
        = subst (λ (zs : List ℕ). SomeOf (AllByRecursion (λ atom. Stands to (atom_at zs atom))) form.disjuncts) (sym all_read) stand in
        after_carries to [] (sym (append-nil to.lines)) (omega arith) known
        (witnessed_line (e ++ ys) to (map (map (atom_at all_args)) form.disjuncts) disjuncts_within
        (some_mapped (ImagesStand (e ++ ys) to) (map (atom_at all_args))
        (λ atoms below stands. each_mapped (λ fact. Stands to (image (e ++ ys) fact)) (atom_at all_args)
        (λ atom b s. subst (Stands to) (sym (atom_at_image constants (form.universals + form.existentials) all_args all_long (e ++ ys) more_fixed atom b)) s) atoms below stands)
        form.disjuncts formed.disjuncts stand2))

  -- the other context takes the step at the images
  pub step_carries : (form : Form) (args : List ℕ) → IsWellFormed constants form → IsInstance from form args
      → Carries task (e ++ counted to.elements form.existentials) (after_mp from form args) (after_mp to form (map (slice_index e) args))
  step_carries form args formed inst =
      let ys : List ℕ = counted to.elements form.existentials in
      let many : length ys ≡ form.existentials = counted_length to.elements form.existentials in
      let more : Context = after_mp to form (map (slice_index e) args) in
      let lists : List (List Atom) = map (map (atom_at (args ++ counted from.elements form.existentials))) form.disjuncts in
      let last : Line = line_of (map (map (atom_at (map (slice_index e) args ++ ys))) form.disjuncts) in
      after_carries form args formed inst ys many more (last ∷ []) refl (omega arith)
      (counted_below to.elements form.existentials more.elements (omega arith))
      (new_line (e ++ ys) more (length to.lines) lists (disjuncts_within form args formed inst ys many)
      (get_behind to.lines last [] ∙ ap (λ (ls : List (List Atom)). Some (line_of ls)) (sym (disjuncts_image form args formed inst ys many))))
