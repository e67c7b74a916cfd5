-- Facts of a context read in an interpretation, by a list that gives an element for each of the
-- context's.
use Rattle.std.proofs.Common.{◌≡◌, ℕ, ◌<◌, ◌≤◌, List, [], ◌∷◌, ◌++◌, map, length, slice_index, refl, ap, sym, ◌∙◌, subst, inl, inr, arith, length-append}
use Rattle.std.proofs.lemmas.List.{get_or-map, get_or_append_left}
use Rattle.std.specs.List.{AllByRecursion}
use Rattle.text_core.specs.Lists.{SomeOf}
use Rattle.logic_core.specs.Forms.{Interpretation, SlotIsBelow, AtomIsBelow, AtomTrue, slot_value}
use Rattle.logic_core.specs.declared.form.Slot.{Slot}
use Rattle.logic_core.specs.declared.form.Slot.TheVariants.{Variable, Constant}
use Rattle.logic_core.specs.declared.form.Atom.{Atom}
use Rattle.vernacular_tree.specs.Contexts.{slot_at, atom_at, line_of, LineHas, Stands}
use Rattle.vernacular_tree.specs.declared.context.Line.{Line}
use Rattle.vernacular_tree.specs.declared.context.Line.TheVariants.{Facts, Cases, Falsum}
use Rattle.vernacular_tree.specs.declared.context.Context.{Context}
use Rattle.text_core.proofs.Laws.{each_map, each_index, some_with, each_same}

-- the element of a slot of a fact
abbrev pub slot_in : List ℕ → Slot → ℕ
slot_in e (Variable v) = 0
slot_in e (Constant a) = slice_index e a

-- a slot below one bound is below any bound that is no smaller
pub slot_below : (n m : ℕ) → n ≤ m → (s : Slot) → SlotIsBelow 0 n s → SlotIsBelow 0 m s
slot_below n m le (Variable v) h = h
slot_below n m le (Constant c) h = omega arith

-- a slot keeps its element where more elements are put behind
slot_grows : (e ys : List ℕ) (s : Slot) → SlotIsBelow 0 (length e) s → slot_in (e ++ ys) s ≡ slot_in e s
slot_grows e ys (Variable v) h = absurd (omega arith)
slot_grows e ys (Constant c) h = get_or_append_left e ys 0 c h

module _ (i : Interpretation) where
  -- a fact has known elements, and is true at what they read
  pub record FactTrue (e : List ℕ) (fact : Atom) : Type 0 where
    pub within : AtomIsBelow 0 (length e) fact
    pub holds : i.holds fact.symbol (map (slot_in e) fact.args) ≡ fact.positive

  -- a line is true at what the elements read: all its facts are, or all of one case; falsehood
  -- never is
  abbrev pub LineTrue : List ℕ → Line → Type 0
  LineTrue e (Facts facts) = AllByRecursion (FactTrue e) facts
  LineTrue e (Cases lists) = SomeOf (AllByRecursion (FactTrue e)) lists
  LineTrue e Falsum = ⊥

  -- a true fact stays true where more elements are put behind
  pub fact_grows : (e ys : List ℕ) (fact : Atom) → FactTrue e fact → FactTrue (e ++ ys) fact
  fact_grows e ys fact h =
      let longer : length e ≤ length (e ++ ys) = omega (arith, length-append e ys) in
      let same : map (slot_in (e ++ ys)) fact.args ≡ map (slot_in e) fact.args
      = each_same (slot_in (e ++ ys)) (slot_in e) fact.args (each_map (slot_grows e ys) fact.args h.within) in
      record {
        within = each_map (slot_below (length e) (length (e ++ ys)) longer) fact.args h.within;
        holds = ap (i.holds fact.symbol) same ∙ h.holds;
      }

  -- a list with a true case keeps it where more elements are put behind
  lists_grow : (e ys : List ℕ) (lists : List (List Atom)) → SomeOf (AllByRecursion (FactTrue e)) lists → SomeOf (AllByRecursion (FactTrue (e ++ ys))) lists
  lists_grow e ys [] h = h
  lists_grow e ys (facts ∷ lists) (inl h) = inl (each_map (fact_grows e ys) facts h)
  lists_grow e ys (facts ∷ lists) (inr h) = inr (lists_grow e ys lists h)

  -- a true line stays true where more elements are put behind
  pub line_grows : (e ys : List ℕ) (line : Line) → LineTrue e line → LineTrue (e ++ ys) line
  line_grows e ys (Facts facts) h = each_map (fact_grows e ys) facts h
  line_grows e ys (Cases lists) h = lists_grow e ys lists h
  line_grows e ys Falsum h = h

  -- the line of a list of disjuncts of which one is true
  pub line_of_true : (e : List ℕ) (lists : List (List Atom)) → SomeOf (AllByRecursion (FactTrue e)) lists → LineTrue e (line_of lists)
  line_of_true e [] h = h
  line_of_true e (facts ∷ []) (inl h) = h
  line_of_true e (facts ∷ []) (inr h) = absurd h
  line_of_true e (facts ∷ more ∷ rest) h = h

  -- a fact that a true line has is true
  in_line : (e : List ℕ) (fact : Atom) (line : Line) → LineTrue e line → LineHas fact line → FactTrue e fact
  in_line e fact (Facts facts) all has = some_with (λ y true_y same. subst (FactTrue e) same true_y) facts all has
  in_line e fact (Cases lists) all has = absurd has
  in_line e fact Falsum all has = absurd has

  -- what stands in a context whose lines are true is true
  pub standing_true : (e : List ℕ) (fact : Atom) (context : Context) → AllByRecursion (LineTrue e) context.lines → Stands context fact → FactTrue e fact
  standing_true e fact context all h = some_with (in_line e fact) context.lines all h

  -- the first elements are the constants'
  abbrev pub Named : ℕ → List ℕ → Type 0
  Named constants e = (c : ℕ) → c < constants → (c < length e) × (slice_index e c ≡ i.place c)

  module _ (n constants : ℕ) (xs e : List ℕ) (long : length xs ≡ n) (known : AllByRecursion (λ x. x < length e) xs) (named : Named constants e) where
    -- a slot of a form stands at one of the elements
    slot_within : (s : Slot) → SlotIsBelow n constants s → SlotIsBelow 0 (length e) (slot_at xs s)
    slot_within (Variable v) h = each_index (λ x. x < length e) xs v (omega arith) known
    slot_within (Constant c) h = (named c h).0

    -- a slot of a form and the element that it stands at have the same value
    slot_reads : (s : Slot) → SlotIsBelow n constants s → slot_in e (slot_at xs s) ≡ slot_value i (map (slice_index e) xs) s
    slot_reads (Variable v) h = sym (get_or-map (slice_index e) xs v 0 0 (omega arith))
    slot_reads (Constant c) h = (named c h).1

    -- slots of a form stand at some of the elements
    args_within : (ss : List Slot) → AllByRecursion (SlotIsBelow n constants) ss → AllByRecursion (SlotIsBelow 0 (length e)) (map (slot_at xs) ss)
    args_within [] h = tt
    args_within (s ∷ ss) h = (slot_within s h.0, args_within ss h.1)

    -- slots of a form and the elements that they stand at have the same values
    args_read : (ss : List Slot) → AllByRecursion (SlotIsBelow n constants) ss
        → map (slot_in e) (map (slot_at xs) ss) ≡ map (slot_value i (map (slice_index e) xs)) ss
    args_read [] h = refl
    args_read (s ∷ ss) h = let first = slot_reads s h.0 in let rest = args_read ss h.1 in cc

    -- an atom of a form is true at what the elements read exactly where its fact is
    pub fact_true : (atom : Atom) → AtomIsBelow n constants atom → AtomTrue i (map (slice_index e) xs) atom → FactTrue e (atom_at xs atom)
    fact_true atom below h = record {
      within = args_within atom.args below;
      holds = ap (i.holds atom.symbol) (args_read atom.args below) ∙ h;
    }

    -- where its fact is true at what the elements read, an atom of a form is true
    pub atom_true : (atom : Atom) → AtomIsBelow n constants atom → FactTrue e (atom_at xs atom) → AtomTrue i (map (slice_index e) xs) atom
    atom_true atom below h = sym (ap (i.holds atom.symbol) (args_read atom.args below)) ∙ h.holds
