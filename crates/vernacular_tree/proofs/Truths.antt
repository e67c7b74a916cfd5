-- What the four rules derive is true.
use Rattle.std.proofs.Common.{◌≡◌, ℕ, zero, suc, ◌+◌, ◌-◌, ◌<◌, ◌≤◌, max, List, [], ◌∷◌, ◌++◌, map, length, slice_index, refl, ap, ◌∙◌, subst, ◌⊎◌, inl, inr, arith, length-append}
use Rattle.std.proofs.lemmas.List.{map-append, get_or-map, get_or_append_left, length-map}
use Rattle.std.specs.List.{AllByRecursion}
use Rattle.text_core.specs.Lists.{SomeOf}
use Rattle.logic_core.specs.Forms.{Interpretation, IsWellFormed, AtomIsBelow, AtomTrue, AreElements, ConclusionTrue, FormTrue}
use Rattle.logic_core.specs.declared.form.Atom.{Atom}
use Rattle.logic_core.specs.declared.form.Form.{Form}
use Rattle.vernacular_tree.specs.Contexts.{Task, counted, parameters, atom_at, start_context, with_facts, after_mp, line_of}
use Rattle.vernacular_tree.specs.Rules.{IsInstance, IsAnswer, StepsThen, Closes, EachProves, Proves}
use Rattle.vernacular_tree.specs.Tasks.{IsTask}
use Rattle.vernacular_tree.specs.declared.context.Line.{Line}
use Rattle.vernacular_tree.specs.declared.context.Line.TheVariants.{Facts, Cases, Falsum}
use Rattle.vernacular_tree.specs.declared.context.Context.{Context}
use Rattle.vernacular_tree.specs.declared.tree.Mp.{Mp}
use Rattle.vernacular_tree.specs.declared.tree.Body.{Body}
use Rattle.vernacular_tree.specs.declared.tree.End.{End, As, Efq, Cs', Row_of-Body, end_of-Body, more_of-Body}
use Rattle.text_core.proofs.Laws.{each_map, each_append, each_get, each_index, each_mapped, each_both, some_mapped, some_with, some_at}
use Rattle.vernacular_tree.proofs.Numbers.{below_greater, counted_length, counted_below, counted_at, counted_read, both_read, old_read}
use Rattle.vernacular_tree.proofs.Facts.{FactTrue, LineTrue, line_grows, line_of_true, standing_true, Named, fact_true, atom_true}

module _ (i : Interpretation) (constants : ℕ) (task : Task) (right : IsTask constants task) (us : List ℕ) where
  -- a context is true at a list that reads its elements; the parameters read the given values
  pub record ContextTrue (context : Context) (e : List ℕ) : Type 0 where
    pub length_is : length e ≡ context.elements
    pub elements : AllByRecursion i.element e
    pub lines : AllByRecursion (LineTrue i e) context.lines
    pub named : Named i constants e
    pub parameters_known : AllByRecursion (λ p. p < length e) (parameters task)
    pub parameters_read : map (slice_index e) (parameters task) ≡ us

  -- a true context with true facts added is true
  with_facts_true : (context : Context) (e : List ℕ) (facts : List Atom) → ContextTrue context e → AllByRecursion (FactTrue i e) facts
      → ContextTrue (with_facts context facts) e
  with_facts_true context e facts h all = record {
    length_is = h.length_is;
    elements = h.elements;
    lines = each_append (LineTrue i e) context.lines (Facts facts ∷ []) h.lines (all, tt);
    named = h.named;
    parameters_known = h.parameters_known;
    parameters_read = h.parameters_read;
  }

  module _ (forms_true : AllByRecursion (FormTrue i) task.forms) where
    -- where a form may be applied in a true context, its conclusion is true
    instance_true : (context : Context) (e : List ℕ) (form : Form) (args : List ℕ) → ContextTrue context e → IsWellFormed constants form
        → FormTrue i form → IsInstance context form args → ConclusionTrue i form (map (slice_index e) args)
    instance_true context e form args h formed holds inst =
        let known : AllByRecursion (λ x. x < length e) args = rw h.length_is (inst.args_known.known) in
        holds (map (slice_index e) args)
        (record {
          length_is = length-map args (slice_index e) ∙ inst.args_known.length_is;
          are = each_mapped {P = λ x. x < length e} {Q = λ x. x < length e} i.element (slice_index e) (λ x below _. each_index i.element e x below h.elements) args known known;
        })
        (each_both (λ atom below stands. atom_true i form.universals constants args e inst.args_known.length_is known h.named atom below
        (standing_true i e (atom_at args atom) context h.lines stands)) form.premises formed.premises inst.premises)

    -- a true context stays true after modus ponens, with values for the new elements
    after_true : (context : Context) (e : List ℕ) (form : Form) (args : List ℕ) → ContextTrue context e → IsWellFormed constants form
        → IsInstance context form args → (c : ConclusionTrue i form (map (slice_index e) args)) → ContextTrue (after_mp context form args) (e ++ c.existentials)
    after_true context e form args h formed inst c =
        let ys : List ℕ = c.existentials in
        let e2 : List ℕ = e ++ ys in
        let xs : List ℕ = args ++ counted context.elements form.existentials in
        let many : length e2 ≡ length e + length ys = length-append e ys in
        let known : AllByRecursion (λ x. x < length e) args = rw h.length_is (inst.args_known.known) in
        let old : AllByRecursion (λ x. x < length e2) args = below_greater (length e) (length e2) args (omega arith) known in
        let count : length e + form.existentials ≤ length e2 = omega (arith, c.values.length_is) in
        let new : AllByRecursion (λ x. x < length e2) (counted context.elements form.existentials)
        = counted_below context.elements form.existentials (length e2) (omega (arith, h.length_is)) in
        let all_known : AllByRecursion (λ x. x < length e2) xs = each_append (λ x. x < length e2) args (counted context.elements form.existentials) old new in
        let long : length xs ≡ form.universals + form.existentials
        = omega (arith, length-append args (counted context.elements form.existentials), inst.args_known.length_is, counted_length context.elements form.existentials) in
        let named : Named i constants e2 = λ k below. let there = h.named k below in
        (let a : k < length e = there.0 in omega arith, get_or_append_left e ys 0 k there.0 ∙ there.1) in
        let reads : map (slice_index e2) xs ≡ map (slice_index e) args ++ ys
        = both_read e ys args context.elements form.existentials h.length_is c.values.length_is inst.args_known.known in
        let holds : SomeOf (AllByRecursion (AtomTrue i (map (slice_index e2) xs))) form.disjuncts = rw reads c.holds in
        let facts : SomeOf (AllByRecursion (FactTrue i e2)) (map (map (atom_at xs)) form.disjuncts)
        = some_mapped (AllByRecursion (FactTrue i e2)) (map (atom_at xs)) (λ atoms below true_at. each_mapped (FactTrue i e2) (atom_at xs)
        (λ atom b t. fact_true i (form.universals + form.existentials) constants xs e2 long all_known named atom b t) atoms below true_at)
        form.disjuncts formed.disjuncts holds in
        record {
          length_is = omega (arith, h.length_is, c.values.length_is);
          elements = each_append i.element e ys h.elements c.values.are;
          lines = each_append (LineTrue i e2) context.lines (line_of (map (map (atom_at xs)) form.disjuncts) ∷ [])
              (each_map (line_grows i e ys) context.lines h.lines)
              (line_of_true i e2 (map (map (atom_at xs)) form.disjuncts) facts, tt);
          named = named;
          parameters_known = below_greater (length e) (length e2) (parameters task) (omega arith) h.parameters_known;
          parameters_read = old_read e ys (parameters task) h.parameters_known ∙ h.parameters_read;
        }

    -- what follows after the steps follows before them
    steps_true : {R : Type 0} (steps : List Mp) (P : Context → Type 0)
        → ((context : Context) (e : List ℕ) → ContextTrue context e → P context → R)
        → (context : Context) (e : List ℕ) → ContextTrue context e → StepsThen task steps P context → R
    steps_true [] P go context e h then = go context e h then
    steps_true (step ∷ steps) P go context e h then =
        let form = then.0 in
        let formed = each_get (IsWellFormed constants) task.forms step.form form right.forms then.1 in
        let holds = each_get (FormTrue i) task.forms step.form form forms_true then.1 in
        let c = instance_true context e form step.args h formed holds then.2 in
        steps_true steps P go (after_mp context form step.args) (e ++ c.existentials)
        (after_true context e form step.args h formed then.2 c) then.3

    -- an answer in a true context shows the goal
    answer_true : (context : Context) (e : List ℕ) (disjunct : ℕ) (args : List ℕ) → ContextTrue context e → IsAnswer task context disjunct args
        → ConclusionTrue i task.goal us
    answer_true context e disjunct args h answer =
        let values : List ℕ = map (slice_index e) args in
        let known : AllByRecursion (λ x. x < length e) args = rw h.length_is (answer.args_known.known) in
        let xs : List ℕ = parameters task ++ args in
        let long : length xs ≡ task.goal.universals + task.goal.existentials
        = omega (arith, length-append (parameters task) args, counted_length (task.start - task.goal.universals) task.goal.universals, answer.args_known.length_is) in
        let reads : map (slice_index e) xs ≡ us ++ values = map-append (slice_index e) (parameters task) args ∙ ap (λ (vs : List ℕ). vs ++ values) h.parameters_read in
        let below = each_get (AllByRecursion (AtomIsBelow (task.goal.universals + task.goal.existentials) constants)) task.goal.disjuncts _ answer.atoms right.goal.disjuncts answer.disjunct_is in
        let true_at : AllByRecursion (AtomTrue i (map (slice_index e) xs)) answer.atoms
        = each_both (λ atom b stands. atom_true i (task.goal.universals + task.goal.existentials) constants xs e long
        (each_append (λ x. x < length e) (parameters task) args h.parameters_known known) h.named atom b
        (standing_true i e (atom_at xs atom) context h.lines stands)) answer.atoms below answer.stand in
        record {
          existentials = values;
          values = record {
            length_is = length-map args (slice_index e) ∙ answer.args_known.length_is;
            are = each_mapped {P = λ x. x < length e} {Q = λ x. x < length e} i.element (slice_index e) (λ x b _. each_index i.element e x b h.elements) args known known;
          };
          holds = some_at (AllByRecursion (AtomTrue i (us ++ values))) task.goal.disjuncts _ answer.atoms answer.disjunct_is (rw reads at true_at);
        }

    -- a line of falsehood is not true
    falsum_false : (e : List ℕ) (line : Line) → LineTrue i e line → line ≡ Falsum → ⊥
    falsum_false e line h same = subst (LineTrue i e) same h

    mutual
      -- a closed branch of a true context shows the goal
      end_true : (end : End) (context : Context) (e : List ℕ) → ContextTrue context e → Closes task end context → ConclusionTrue i task.goal us
      end_true (As disjunct args) context e h closes = answer_true context e disjunct args h closes
      end_true Efq context e h closes = absurd (some_with (falsum_false e) context.lines h.lines closes)
      end_true (Cs' line _ branches) context e h closes =
          each_true branches closes.0 context e h (each_get (LineTrue i e) context.lines line (Cases closes.0) h.lines closes.1) closes.2

      -- where one case is true, its branch shows the goal
      each_true : {n : _} (branches : Row_of-Body n) (lists : List (List Atom)) (context : Context) (e : List ℕ) → ContextTrue context e
          → SomeOf (AllByRecursion (FactTrue i e)) lists → EachProves task branches lists context → ConclusionTrue i task.goal us
      each_true end_of-Body lists context e h holds each = absurd (subst (SomeOf (AllByRecursion (FactTrue i e))) each holds)
      each_true (more_of-Body steps end rest) lists context e h holds each =
          let split : AllByRecursion (FactTrue i e) each.0 ⊎ SomeOf (AllByRecursion (FactTrue i e)) each.1
          = subst (SomeOf (AllByRecursion (FactTrue i e))) each.2 holds in
          elim split [
            | inl first ↦ steps_true steps (Closes task end) (end_true end) (with_facts context each.0) e (with_facts_true context e each.0 h first) each.3
            | inr others ↦ each_true rest each.1 context e h others each.4
          ]

  module _ (placed : (c : ℕ) → i.element (i.place c)) (some : ℕ) (inhabited : i.element some)
      (given : AreElements i task.goal.universals us) (premises : AllByRecursion (AtomTrue i us) task.goal.premises) where
    -- the elements of the constants
    abbrev places : List ℕ
    places = map i.place (counted 0 constants)

    -- the premises of the goal are true at the values of the parameters
    first_line : (e : List ℕ) → Named i constants e → AllByRecursion (λ p. p < length e) (parameters task) → map (slice_index e) (parameters task) ≡ us
        → LineTrue i e (Facts (map (atom_at (parameters task)) task.goal.premises))
    first_line e named known reads = each_mapped (FactTrue i e) (atom_at (parameters task))
        (λ atom below holds. fact_true i task.goal.universals constants (parameters task) e
        (counted_length (task.start - task.goal.universals) task.goal.universals) known named atom below holds)
        task.goal.premises right.goal.premises (rw reads premises)

    -- the start is true at the elements of the constants, or some element, and the values of the parameters
    started : (base : List ℕ) → length base ≡ task.start - task.goal.universals → length base + length us ≡ task.start
        → AllByRecursion i.element base → Named i constants (base ++ us) → ContextTrue (start_context task) (base ++ us)
    started base front whole are named =
        let long : length (base ++ us) ≡ length base + length us = length-append base us in
        let known : AllByRecursion (λ p. p < length (base ++ us)) (parameters task)
        = counted_below (task.start - task.goal.universals) task.goal.universals (length (base ++ us)) (omega (arith, given.length_is)) in
        let reads : map (slice_index (base ++ us)) (parameters task) ≡ us
        = counted_read base us (task.start - task.goal.universals) task.goal.universals front given.length_is in
        record {
          length_is = omega arith;
          elements = each_append i.element base us are given.are;
          lines = (first_line (base ++ us) named known reads, tt);
          named = named;
          parameters_known = known;
          parameters_read = reads;
        }

    -- the places of constants are elements
    all_placed : (cs : List ℕ) → AllByRecursion i.element (map i.place cs)
    all_placed [] = tt
    all_placed (c ∷ cs) = (placed c, all_placed cs)

    -- there is a place for each constant
    places_long : length places ≡ constants
    places_long = length-map (counted 0 constants) i.place ∙ counted_length 0 constants

    -- the first elements are the constants'
    constants_named : Named i constants (places ++ us)
    constants_named c below =
        let long : length (places ++ us) ≡ length places + length us = length-append places us in
        let count : length places ≡ constants = places_long in
        let count2 : length (counted 0 constants) ≡ constants = counted_length 0 constants in
        let at : slice_index (counted 0 constants) c ≡ c = let r = counted_at 0 constants c below in omega arith in
        (omega arith, get_or_append_left places us 0 c (omega arith) ∙ get_or-map i.place (counted 0 constants) c 0 0 (omega arith) ∙ ap i.place at)

    -- the start context is true at some list of elements
    start_true : (n : ℕ) → constants + task.goal.universals ≡ n → (e : List ℕ) × ContextTrue (start_context task) e
    start_true zero same =
        let start : task.start ≡ max 1 (constants + task.goal.universals) = right.start in
        let none : length us ≡ task.goal.universals = given.length_is in
        ((some ∷ []) ++ us, started (some ∷ []) (omega arith) (omega arith) (inhabited, tt) (λ c below. absurd (omega arith)))
    start_true (suc n) same =
        let start : task.start ≡ max 1 (constants + task.goal.universals) = right.start in
        let count : length places ≡ constants = places_long in
        let many : length us ≡ task.goal.universals = given.length_is in
        (places ++ us, started places (omega arith) (omega arith) (all_placed (counted 0 constants)) constants_named)

    -- the goal is true where the forms are and a body proves the task
    pub goal_true : (forms_true : AllByRecursion (FormTrue i) task.forms) (body : Body) → Proves task body → ConclusionTrue i task.goal us
    goal_true forms_true body proves =
        let first = start_true (constants + task.goal.universals) refl in
        steps_true forms_true body.steps (Closes task body.end) (end_true forms_true body.end) (start_context task) first.0 first.1 proves
