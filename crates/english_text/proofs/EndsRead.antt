-- How code finds the disjunct of an end, and the line of a split.
use Rattle.std.proofs.Common.{◌≡◌, ℕ, ◌-◌, List, [], ◌++◌, map, get_or, slice_get, Option, Some, unwrap_or, ap, sym, ◌∙◌, subst}
use Rattle.std.proofs.lemmas.Option.{get_or_from_slice_get}
use Rattle.std.specs.List.{AllByRecursion}
use Rattle.text_core.proofs.Laws.{each_get}
use Rattle.logic_core.specs.declared.form.Atom.{Atom}
use Rattle.vernacular_tree.specs.Contexts.{parameters, atom_at}
use Rattle.vernacular_tree.specs.declared.context.Line as Line
use Rattle.vernacular_tree.specs.declared.context.Line.TheVariants.{Cases}
use Rattle.coherent_form.specs.Fitting.{AtomFits}
use Rattle.coherent_form.specs.Kept.{IsRight}
use Rattle.coherent_form.specs.Tasks.{CitedTask, proof_task}
use Rattle.proof_text.specs.ScriptOf.{lists_in}
use Rattle.proof_text.specs.Showing.{FactFits}
use Rattle.proof_text.proofs.Laws.{facts_at_fit}
use Rattle.english_text.specs.English.{answer_facts}

-- the line that is read by the number of a line of cases is that of its lists
pub line_read : (seen lines : List Line.Line) (n : ℕ) (lists : List (List Atom)) (read : Line.Line) → slice_get lines n ≡ Some (Cases lists)
    → seen ≡ lines → read ≡ get_or seen n read → read ≡ Cases (lists_in (slice_get lines n))
line_read seen lines n lists read at same is =
    is ∙ ap (λ (ls : List Line.Line). get_or ls n read) same ∙ get_or_from_slice_get lines n (Cases lists) read at
    ∙ ap (λ (line : Option Line.Line). Cases (lists_in line)) (sym at)

module _ (task : CitedTask) (disjunct : ℕ) (args : List ℕ) (atoms : List Atom) (at : slice_get task.goal.disjuncts (disjunct - 1) ≡ Some atoms) where
  -- the facts of a disjunct that was read are those of the end
  pub answer_read : (seen : List (List Atom)) (elements : List ℕ) (read facts : List Atom) → seen ≡ task.goal.disjuncts
      → read ≡ get_or seen (disjunct - 1) read → elements ≡ parameters (proof_task task) ++ args → facts ≡ map (atom_at elements) read
      → facts ≡ answer_facts task disjunct args
  answer_read seen elements read facts same is elements_are facts_are =
      let found : read ≡ unwrap_or (slice_get task.goal.disjuncts (disjunct - 1)) []
      = is ∙ ap (λ (ls : List (List Atom)). get_or ls (disjunct - 1) read) same ∙ get_or_from_slice_get task.goal.disjuncts (disjunct - 1) atoms read at
      ∙ ap (λ (found : Option (List Atom)). unwrap_or found []) (sym at) in
      facts_are ∙ (λ i. map (atom_at (elements_are i)) (found i))

  -- they fit
  pub answer_fits : IsRight task → (facts : List Atom) → facts ≡ answer_facts task disjunct args → AllByRecursion (FactFits task.tables) facts
  answer_fits right facts is =
      let elements : List ℕ = parameters (proof_task task) ++ args in
      let fits : AllByRecursion (AtomFits task.tables) atoms
      = each_get (AllByRecursion (AtomFits task.tables)) task.goal.disjuncts (disjunct - 1) atoms right.goal.disjuncts at in
      let same : map (atom_at elements) atoms ≡ answer_facts task disjunct args
      = ap (λ (found : Option (List Atom)). map (atom_at elements) (unwrap_or found [])) (sym at) in
      subst (AllByRecursion (FactFits task.tables)) (same ∙ sym is) (facts_at_fit task.tables elements atoms fits)
