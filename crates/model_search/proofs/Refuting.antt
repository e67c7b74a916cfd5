-- A countermodel as a candidate that refutes the task.
use Rattle.std.proofs.Common.{◌≡◌, ℕ, zero, suc, ◌+◌, ◌-◌, ◌<◌, Bool, true, false, if◌then◌else◌, List, [], ◌∷◌, ◌++◌, map, length, slice_get, Some, refl, sym, ◌∙◌, ap, subst, arith}
use Rattle.std.specs.Prelude.{slice_index, nat_lt, unwrap_or, Option}
use Rattle.std.specs.List.{AllByRecursion}
use Rattle.std.specs.Str.{bytes_eq}
use Rattle.text_core.specs.Names.{Text}
use Rattle.text_core.specs.Numbered.{Tables, text_or_empty}
use Rattle.text_core.proofs.Laws.{each_both, each_get, each_map}
use Rattle.logic_core.specs.Allowed.{FofIsAllowed}
use Rattle.logic_core.specs.Forms.{AtomTrue, ConclusionTrue, FormTrue, IsWellFormed, holds_by_name, holds_by_number, interpretation}
use Rattle.logic_core.specs.declared.problem.Fof.{Fof}
use Rattle.logic_core.specs.declared.form.Form.{Form}
use Rattle.vernacular_tree.specs.Contexts.{counted}
use Rattle.coherent_form.specs.BuiltIns.{built_ins, built_in_form, built_in_citation}
use Rattle.coherent_form.specs.Reading.{Extends}
use Rattle.coherent_form.specs.Kept.{IsRight}
use Rattle.coherent_form.specs.Tasks.{CitedTask, Progress, nothing_read, no_goal, after_formulas, AreTaken, task_of, IsTaskOf}
use Rattle.coherent_form.specs.declared.citation.Citation.{Citation}
use Rattle.coherent_form.specs.declared.citation.Citation.TheVariants.{Axiom}
use Rattle.coherent_form.specs.declared.source.BuiltIn.{BuiltIn}
use Rattle.coherent_form.specs.declared.source.BuiltIn.TheVariants.{Refl, Sym, Trans, Sub, No, Or}
use Rattle.model_text.specs.Structures.{Finite, IsSound}
use Rattle.model_text.specs.declared.structure.Place.{Place}
use Rattle.finite_model.specs.Structures.{finite, place_in, found_place}
use Rattle.finite_model.specs.Countermodels.{IsCountermodel}
use Rattle.model_search.specs.Candidates.{Candidate, holds_in, world, Refutes}
use Rattle.model_search.proofs.Agreement.{atom_agrees, conclusion_agrees, form_agrees}
use Rattle.model_search.proofs.Decisions.{FailsAt, form_fails}
use Rattle.model_search.proofs.Readings.{by_test, extends_itself, AreRefuted, refuted_after_all}

-- no built-in axiom is cited as a formula
built_in_other : (tables : Tables) (b : BuiltIn) (name : Text) (rank : ℕ) → built_in_citation tables b ≡ Axiom name rank → ⊥
built_in_other tables Refl name rank e = absurd (cc)
built_in_other tables Sym name rank e = absurd (cc)
built_in_other tables Trans name rank e = absurd (cc)
built_in_other tables (Sub positive symbol place) name rank e = absurd (cc)
built_in_other tables (No symbol) name rank e = absurd (cc)
built_in_other tables (Or symbol) name rank e = absurd (cc)

-- so a form that is cited as one is not built in
cited_given : (P : Form → Type 0) (tables : Tables) (forms more : List Form) (citations : List Citation) (axioms : List BuiltIn)
    → length citations ≡ length forms → AllByRecursion P forms → (n : ℕ) (form : Form) (name : Text) (rank : ℕ)
    → slice_get (citations ++ map (built_in_citation tables) axioms) n ≡ Some (Axiom name rank) → slice_get (forms ++ more) n ≡ Some form → P form
cited_given P tables [] more [] axioms count all n form name rank cited at = absurd (none axioms n cited)
  where
    none : (axioms : List BuiltIn) (n : ℕ) → slice_get (map (built_in_citation tables) axioms) n ≡ Some (Axiom name rank) → ⊥
    none [] n e = absurd (cc)
    none (b ∷ bs) zero e = built_in_other tables b name rank (let same : built_in_citation tables b ≡ Axiom name rank = cc in same)
    none (b ∷ bs) (suc n) e = none bs n e
cited_given P tables [] more (cite ∷ citations) axioms count all n form name rank cited at = absurd (omega (arith, count))
cited_given P tables (first ∷ forms) more [] axioms count all n form name rank cited at = absurd (omega (arith, count))
cited_given P tables (first ∷ forms) more (cite ∷ citations) axioms count all zero form name rank cited at =
    subst P (let same : first ≡ form = cc in same) all.0
cited_given P tables (first ∷ forms) more (cite ∷ citations) axioms count all (suc n) form name rank cited at =
    cited_given P tables forms more citations axioms (omega (arith, count)) all.1 n form name rank cited at

-- the first of two, and the second
first_chosen : {X : Type 0} (b : Bool) (x y : X) → b ≡ true → (if b then x else y) ≡ x
first_chosen true x y e = refl
first_chosen false x y e = absurd (cc)

second_chosen : {X : Type 0} (b : Bool) (x y : X) → b ≡ false → (if b then x else y) ≡ y
second_chosen true x y e = absurd (cc)
second_chosen false x y e = refl

-- an element among several, or 0
index_below : (n : ℕ) → 0 < n → (xs : List ℕ) (i : ℕ) → AllByRecursion (λ x. x < n) xs → slice_index xs i < n
index_below n some [] i below = some
index_below n some (x ∷ xs) zero below = below.0
index_below n some (x ∷ xs) (suc i) below = index_below n some xs i below.1

-- an element of a place, or 0
place_below : (n : ℕ) → 0 < n → (places : List Place) (constant : Text) → AllByRecursion (λ (p : Place). p.element < n) places
    → unwrap_or (found_place places constant) 0 < n
place_below n some [] constant below = some
place_below n some (p ∷ places) constant below =
    by_test (λ (found : Option ℕ). unwrap_or found 0 < n) (bytes_eq p.constant constant) _ _
    (λ e. below.0) (λ e. place_below n some places constant below.1)

-- the images of numbers in a row
row_images : (f : ℕ → ℕ) (first : ℕ) (xs : List ℕ) → ((v : ℕ) → v < length xs → f (first + v) ≡ slice_index xs v)
    → map f (counted first (length xs)) ≡ xs
row_images f first [] h = refl
row_images f first (x ∷ xs) h =
    let here : f first ≡ x = ap f (omega arith) ∙ h 0 (omega arith) in
    let rest : map f (counted (first + 1) (length xs)) ≡ xs
    = row_images f (first + 1) xs (λ v below. ap f (let same : first + 1 + v ≡ first + suc v = omega arith in same) ∙ h (suc v) (omega (arith, below))) in
    (λ i. here i ∷ rest i)

-- a structure whose parameters have these elements
module _ (m : Finite) (sound : IsSound m) (tables : Tables) (values : List ℕ) (below : AllByRecursion (λ x. x < m.size) values) where
  abbrev place_named : ℕ → ℕ
  place_named k = place_in m.places (text_or_empty (slice_get tables.constants k))

  abbrev place_of : ℕ → ℕ
  place_of k = if nat_lt k (length tables.constants) then place_named k else slice_index values (k - length tables.constants)

  abbrev pub candidate : Candidate
  candidate = record { size = m.size; holds = λ n xs. holds_by_name (finite m) (slice_get tables.symbols n) xs; place = place_of }

  same_holds : (symbol : ℕ) (xs : List ℕ) → holds_in candidate symbol xs ≡ holds_by_number (finite m) tables symbol xs
  same_holds zero xs = refl
  same_holds (suc n) xs = refl

  same_place : (k : ℕ) → k < length tables.constants → place_of k ≡ place_named k
  same_place k h = first_chosen (nat_lt k (length tables.constants)) (place_named k) _ (grind (arith, h))

  candidate_placed : (k : ℕ) → place_of k < m.size
  candidate_placed k = by_test (λ x. x < m.size) (nat_lt k (length tables.constants)) (place_named k) _
      (λ e. place_below m.size (let some = sound.some in omega (arith, some)) m.places (text_or_empty (slice_get tables.constants k)) sound.placed)
      (λ e. index_below m.size (let some = sound.some in omega (arith, some)) values (k - length tables.constants) below)

  parameter_place : (v : ℕ) → v < length values → place_of (length tables.constants + v) ≡ slice_index values v
  parameter_place v h =
      let behind : nat_lt (length tables.constants + v) (length tables.constants) ≡ false = grind arith in
      let same : length tables.constants + v - length tables.constants ≡ v = omega arith in
      second_chosen (nat_lt (length tables.constants + v) (length tables.constants)) _ (slice_index values (length tables.constants + v - length tables.constants)) behind
      ∙ ap (slice_index values) same

  parameters_are : (universals : ℕ) → length values ≡ universals → map place_of (counted (length tables.constants) universals) ≡ values
  parameters_are universals count =
      ap (λ k. map place_of (counted (length tables.constants) k)) (sym count) ∙ row_images place_of (length tables.constants) values parameter_place

  -- a form of the tables is true of it where it is true of the structure
  candidate_form : (form : Form) → IsWellFormed (length tables.constants) form → FormTrue (interpretation (finite m) tables) form → FormTrue (world candidate) form
  candidate_form form formed h =
      form_agrees m.size (holds_in candidate) (holds_by_number (finite m) tables) same_holds place_of place_named (length tables.constants) same_place form formed h

  module _ (goal : Form) (formed : IsWellFormed (length tables.constants) goal) (count : length values ≡ goal.universals)
      (fails : FailsAt m.size (holds_by_number (finite m) tables) place_named goal values) where
    candidate_premises : AllByRecursion (AtomTrue (world candidate) (map place_of (counted (length tables.constants) goal.universals))) goal.premises
    candidate_premises =
        subst (λ xs. AllByRecursion (AtomTrue (world candidate) xs) goal.premises) (sym (parameters_are goal.universals count))
        (each_both (atom_agrees m.size (holds_in candidate) (holds_by_number (finite m) tables) same_holds place_of place_named (length tables.constants) same_place values goal.universals)
        goal.premises formed.premises fails.0)

    candidate_conclusion : ConclusionTrue (world candidate) goal (map place_of (counted (length tables.constants) goal.universals)) → ⊥
    candidate_conclusion c =
        fails.1 (conclusion_agrees m.size (holds_by_number (finite m) tables) (holds_in candidate) (λ symbol xs. sym (same_holds symbol xs))
        place_named place_of (length tables.constants) (λ k h. sym (same_place k h)) goal formed values
        (subst (ConclusionTrue (world candidate) goal) (parameters_are goal.universals count) c))

-- a candidate of the structure's size that refutes the task
pub record SomeRefutes (task : CitedTask) (size : ℕ) : Type 0 where
  pub candidate : Candidate
  pub size_is : candidate.size ≡ size
  pub refutes : Refutes task candidate

-- a countermodel gives one
module _ (problem : List Fof) (allowed : AllByRecursion FofIsAllowed problem) (m : Finite) (sound : IsSound m) where
  read_refuted : (p : Progress) → p ≡ after_formulas nothing_read problem → AreTaken nothing_read problem → IsRight (task_of p)
      → IsCountermodel p.tables.constants problem m → SomeRefutes (task_of p) m.size
  read_refuted p p_is taken right counter =
      let goal = unwrap_or p.goal no_goal in
      let axioms = built_ins p.tables (goal ∷ p.forms) in
      let forms = map (built_in_form p.tables) axioms in
      let before : AreRefuted (finite m) 0 sound.some p.tables nothing_read
      = record { forms = tt; cited = refl; goal = λ h. (h [] (record { length_is = refl; are = tt }) tt).holds } in
      let refuted : AreRefuted (finite m) 0 sound.some p.tables p
      = subst (AreRefuted (finite m) 0 sound.some p.tables) (sym p_is)
      (refuted_after_all (finite m) 0 sound.some p.tables nothing_read problem taken allowed
      (subst (λ (q : Progress). Extends q.tables p.tables) p_is (extends_itself p.tables)) counter.suits before) in
      let values = form_fails m.size (holds_by_number (finite m) p.tables) (place_named m sound p.tables [] tt) goal refuted.goal in
      record {
        candidate = candidate m sound p.tables values.numbers values.below;
        size_is = refl;
        refutes = record {
          placed = candidate_placed m sound p.tables values.numbers values.below;
          given = λ n form name rank cited at.
              candidate_form m sound p.tables values.numbers values.below form
              (each_get (IsWellFormed (length p.tables.constants)) (p.forms ++ forms) n form (each_map (λ f fits. fits.formed) (p.forms ++ forms) right.forms) at)
              (cited_given (FormTrue (interpretation (finite m) p.tables)) p.tables p.forms forms p.citations axioms refuted.cited refuted.forms n form name rank cited at);
          premises = candidate_premises m sound p.tables values.numbers values.below goal right.goal.formed values.length_is values.holds;
          conclusion = candidate_conclusion m sound p.tables values.numbers values.below goal right.goal.formed values.length_is values.holds;
        };
      }

  pub countermodel_refutes : (task : CitedTask) → IsTaskOf problem task → IsRight task → IsCountermodel task.tables.constants problem m → SomeRefutes task m.size
  countermodel_refutes task is right counter =
      subst (λ t. SomeRefutes t m.size) (sym is.task_is)
      (read_refuted (after_formulas nothing_read problem) refl is.taken (subst IsRight is.task_is right)
      (subst (λ (t : CitedTask). IsCountermodel t.tables.constants problem m) is.task_is counter))
