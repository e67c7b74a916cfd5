-- Where no candidate suits the rules, no structure is a countermodel.
use Rattle.std.proofs.Common.{◌≡◌, ℕ, ◌+◌, ◌<◌, inl, inr, List, [], ◌∷◌, ◌++◌, map, length, take, slice_get, Some, refl, sym, ◌∙◌, subst, arith}
use Rattle.std.specs.Prelude.{Option, None, IfNone}
use Rattle.std.specs.List.{AllByRecursion}
use Rattle.std.proofs.lemmas.List.{append-nil}
use Rattle.text_core.specs.Lists.{SomeOf}
use Rattle.text_core.specs.Names.{Text}
use Rattle.text_core.proofs.Laws.{each_append, each_front, each_back, take_next}
use Rattle.logic_core.specs.Allowed.{FofIsAllowed}
use Rattle.logic_core.specs.Forms.{AreElements, AtomTrue, FormTrue}
use Rattle.logic_core.specs.declared.problem.Fof.{Fof}
use Rattle.logic_core.specs.declared.form.Atom.{Atom}
use Rattle.logic_core.specs.declared.form.Form.{Form}
use Rattle.coherent_form.specs.Kept.{IsRight}
use Rattle.coherent_form.specs.Tasks.{CitedTask, IsTaskOf}
use Rattle.model_text.specs.Structures.{Finite, IsSound}
use Rattle.finite_model.specs.Countermodels.{IsCountermodel}
use Rattle.model_search.specs.Candidates.{Candidate, world, parameters, GivenFormsTrue, Refutes}
use Rattle.model_search.specs.LeastModels.{HasNone}
use Rattle.model_search.specs.Rules.{atom_moved, premise_form, disjunct_form, goal_forms, AreTrueRules, SuitsRules}
use Rattle.model_search.specs.declared.rule.Rule.{Rule}
use Rattle.model_search.proofs.Decisions.{below_or_this}
use Rattle.model_search.proofs.Parameters.{atom_there, atoms_back}
use Rattle.model_search.proofs.Refuting.{countermodel_refutes}

module _ (task : CitedTask) (c : Candidate) (refutes : Refutes task c) where
  -- a premise that is true at the parameters
  premise_true : (atom : Atom) → AtomTrue (world c) (parameters task c) atom
      → FormTrue (world c) (premise_form (length task.tables.constants) task.goal.universals atom)
  premise_true atom h = λ us are premises. record {
    existentials = [];
    values = record { length_is = refl; are = tt };
    holds = inl (at_none us are.length_is, tt);
  }
    where
      at_none : (us : List ℕ) → length us ≡ 0 → AtomTrue (world c) (us ++ []) (atom_moved (length task.tables.constants) task.goal.universals atom)
      at_none [] e = atom_there c (length task.tables.constants) task.goal.universals [] atom
          (subst (λ xs. AtomTrue (world c) xs atom) (sym (append-nil (parameters task c))) h)
      at_none (u ∷ us) e = absurd (omega (arith, e))

  premises_true : (atoms : List Atom) → AllByRecursion (AtomTrue (world c) (parameters task c)) atoms
      → AllByRecursion (FormTrue (world c)) (map (premise_form (length task.tables.constants) task.goal.universals) atoms)
  premises_true [] h = tt
  premises_true (atom ∷ atoms) h = (premise_true atom h.0, premises_true atoms h.1)

  -- disjuncts of which none is true at any values
  disjuncts_false : (disjuncts : List (List Atom))
      → ((xs : List ℕ) → AreElements (world c) task.goal.existentials xs → SomeOf (AllByRecursion (AtomTrue (world c) (parameters task c ++ xs))) disjuncts → ⊥)
      → AllByRecursion (FormTrue (world c)) (map (disjunct_form (length task.tables.constants) task.goal) disjuncts)
  disjuncts_false [] none = tt
  disjuncts_false (atoms ∷ disjuncts) none = (
    (λ xs are premises. absurd (none xs are (inl (atoms_back c (length task.tables.constants) task.goal.universals xs atoms premises)))),
    disjuncts_false disjuncts (λ xs are some. none xs are (inr some)),
  )

  -- the forms that the goal is not true
  pub goal_forms_true : AllByRecursion (FormTrue (world c)) (goal_forms task)
  goal_forms_true =
      let constants = length task.tables.constants in
      each_append (FormTrue (world c)) (map (premise_form constants task.goal.universals) task.goal.premises) (map (disjunct_form constants task.goal) task.goal.disjuncts)
      (premises_true task.goal.premises refutes.premises)
      (disjuncts_false task.goal.disjuncts (λ xs are some. refutes.conclusion (record { existentials = xs; values = are; holds = some })))

-- no structure of a size is a countermodel where no candidate of this size suits the rules
pub none_of_size : (problem : List Fof) (task : CitedTask) (rules : List Rule) (size : ℕ) → AllByRecursion FofIsAllowed problem → IsTaskOf problem task → IsRight task
    → ((c : Candidate) → GivenFormsTrue task c → AllByRecursion (FormTrue (world c)) (goal_forms task) → AreTrueRules c rules)
    → ((c : Candidate) → SuitsRules size rules c → ⊥) → (m : Finite) → IsSound m → m.size ≡ size → IsCountermodel task.tables.constants problem m → ⊥
none_of_size problem task rules size allowed is right rules_true none m sound size_is counter =
    let some = countermodel_refutes problem allowed m sound task is right counter in
    let c = some.candidate in
    none c (record {
      below = record { size_is = some.size_is ∙ size_is; placed = λ k. subst (λ n. c.place k < n) (some.size_is ∙ size_is) (some.refutes.placed k) };
      hold = rules_true c some.refutes.given (goal_forms_true task c some.refutes);
    })

-- none with at most so many elements, and none with one more
pub none_further : (constants : List Text) (problem : List Fof) (before : ℕ) → HasNone constants problem before
    → ((m : Finite) → IsSound m → m.size ≡ before + 1 → IsCountermodel constants problem m → ⊥) → HasNone constants problem (before + 1)
none_further constants problem before fewer here m sound few counter =
    elim (below_or_this m.size (before + 1) (omega (arith, few))) [
      | inl less ↦ fewer m sound (omega (arith, less)) counter
      | inr same ↦ here m sound same counter
    ]

-- one more rule, whose form is the next
pub rules_next : (c : Candidate) (forms : List Form) (i : ℕ) (form : Form) (rules new : List Rule) (rule : Rule) → slice_get forms i ≡ Some form
    → rule.form.now ≡ form → new ≡ rules ++ rule ∷ [] → (AllByRecursion (FormTrue (world c)) (take i forms) → AreTrueRules c rules)
    → AllByRecursion (FormTrue (world c)) (take (i + 1) forms) → AreTrueRules c new
rules_next c forms i form rules new rule at form_is new_is before all =
    let both : AllByRecursion (FormTrue (world c)) (take i forms ++ form ∷ []) = subst (AllByRecursion (FormTrue (world c))) (take_next forms i form at) all in
    subst (AreTrueRules c) (sym new_is)
    (each_append (λ (r : Rule). FormTrue (world c) r.form.now) rules (rule ∷ [])
    (before (each_front (FormTrue (world c)) (take i forms) (form ∷ []) both))
    (subst (FormTrue (world c)) (sym form_is) (each_back (FormTrue (world c)) (take i forms) (form ∷ []) both).0, tt))

-- what is so where there is nothing
pub of_none : {X P : Type 0} (o : Option X) → o ≡ None → IfNone o P → P
of_none None e h = h
of_none (Some x) e h = absurd (cc)
