-- The built-in axioms are true in each structure.
use Rattle.std.proofs.Common.{◌≡◌, ℕ, ◌-◌, ◌==◌, ◌⊎◌, inl, inr, Bool, true, false, if◌then◌else◌, List, [], ◌∷◌, map, slice_index, refl, ap, sym, ◌∙◌, subst, arith}
use Rattle.std.proofs.lemmas.Bool.Decides.{nat_tests}
use Rattle.std.proofs.lemmas.List.{append-nil}
use Rattle.std.specs.List.{AllByRecursion}
use Rattle.text_core.specs.Lists.{SomeOf}
use Rattle.text_core.specs.Numbered.{Tables}
use Rattle.text_core.proofs.Laws.{number_same}
use Rattle.logic_core.specs.Truth.{Structure}
use Rattle.logic_core.specs.Forms.{Interpretation, interpretation, slot_value, AtomTrue, ConclusionTrue, FormTrue}
use Rattle.logic_core.specs.declared.form.Slot.TheVariants.{Variable}
use Rattle.logic_core.specs.declared.form.Form.{Form}
use Rattle.vernacular_tree.specs.Contexts.{counted}
use Rattle.coherent_form.specs.BuiltIns.{arity_in, with_place, built_in_form}
use Rattle.coherent_form.specs.declared.source.BuiltIn.{BuiltIn}
use Rattle.coherent_form.specs.declared.source.BuiltIn.TheVariants.{Refl, Sym, Trans, Sub, No, Or}

-- a number equals itself
itself : (n : ℕ) → (n == n) ≡ true
itself n = grind (arith, nat_tests)

-- numbers that pass the test pass it the other way round
swapped : (m n : ℕ) → (m == n) ≡ true → (n == m) ≡ true
swapped m n e = grind (arith, nat_tests)

-- and one behind the other
joined : (l m n : ℕ) → (l == m) ≡ true → (m == n) ≡ true → (l == n) ≡ true
joined l m n e f = grind (arith, nat_tests)

-- a test passes or fails
passes_or_fails : (b : Bool) → (b ≡ true) ⊎ (b ≡ false)
passes_or_fails true = inl refl
passes_or_fails false = inr refl

-- a variable that is put in a place has the value that was there
placed : (values : List ℕ) (b : Bool) (v place other : ℕ) → (b ≡ true → v ≡ place) → slice_index values place ≡ slice_index values other
    → slice_index values (if b then other else v) ≡ slice_index values v
placed values true v place other is same = sym same ∙ ap (slice_index values) (sym (is refl))
placed values false v place other is same = refl

-- so do all
values_placed : (i : Interpretation) (values vs : List ℕ) (place other : ℕ) → slice_index values place ≡ slice_index values other
    → map (slot_value i values) (map Variable vs) ≡ map (slot_value i values) (map Variable (with_place place other vs))
values_placed i values [] place other same = refl
values_placed i values (v ∷ vs) place other same =
    let here = placed values (v == place) v place other (number_same v place) same in
    let rest = values_placed i values vs place other same in
    λ j. sym here j ∷ rest j

module _ (s : Structure) (tables : Tables) where
  -- the structure, through the numbers of the tables
  abbrev i : Interpretation
  i = interpretation s tables

  -- a conclusion without existential variables
  concluded : (form : Form) (values : List ℕ) → form.existentials ≡ 0 → SomeOf (AllByRecursion (AtomTrue i values)) form.disjuncts → ConclusionTrue i form values
  concluded form values none holds = record {
    existentials = [];
    values = record { length_is = sym none; are = tt };
    holds = subst (λ vs. SomeOf (AllByRecursion (AtomTrue i vs)) form.disjuncts) (sym (append-nil values)) holds;
  }

  -- the built-in axioms are true
  pub built_in_true : (b : BuiltIn) → FormTrue (interpretation s tables) (built_in_form tables b)
  built_in_true Refl = λ vs are premises. concluded (built_in_form tables Refl) vs refl (inl (itself (slice_index vs 0), tt))
  built_in_true Sym = λ vs are premises. concluded (built_in_form tables Sym) vs refl
      (inl (swapped (slice_index vs 0) (slice_index vs 1) premises.0, tt))
  built_in_true Trans = λ vs are premises. concluded (built_in_form tables Trans) vs refl
      (inl (joined (slice_index vs 0) (slice_index vs 1) (slice_index vs 2) premises.0 premises.1.0, tt))
  built_in_true (Sub positive symbol place) = λ vs are premises. concluded (built_in_form tables (Sub positive symbol place)) vs refl
      (inl (
        ap (i.holds symbol) (sym (values_placed i vs (counted 0 (arity_in tables symbol)) (place - 1) (arity_in tables symbol)
            (number_same (slice_index vs (place - 1)) (slice_index vs (arity_in tables symbol)) premises.1.0))) ∙ premises.0,
        tt,
      ))
  built_in_true (No symbol) = λ vs are premises. absurd (let a = premises.0 in let b = premises.1.0 in cc)
  built_in_true (Or symbol) = λ vs are premises. concluded (built_in_form tables (Or symbol)) vs refl
      (elim (passes_or_fails (i.holds symbol (map (slot_value i vs) (map Variable (counted 0 (arity_in tables symbol))))))
      [ inl holds ↦ inl (holds, tt) | inr fails ↦ inr (inl (fails, tt)) ])
