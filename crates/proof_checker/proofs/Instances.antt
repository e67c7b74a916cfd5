-- Which elements an instance stands for, and which of its checks is the first that fails.
use Rattle.std.proofs.Common.{◌≡◌, ℕ, ◌+◌, ◌<◌, inl, inr, Bool, true, false, not, cond, nat_lt, List, [], ◌∷◌, ◌++◌, length, take, map, get_or, Option, Some, None, refl, ap, sym, ◌∙◌, subst, arith, append_assoc, append-nil}
use Rattle.std.specs.List.{AllByRecursion, position_or_len}
use Rattle.std.specs.Option.{IfSome, IfNone}
use Rattle.std.specs.Str.{bytes_eq}
use Rattle.std.proofs.lemmas.Slice.Eq.{bytes_eq-Decides}
use Rattle.std.proofs.lemmas.List.{length-map, map-append}
use Rattle.text_core.specs.Names.{Text}
use Rattle.text_core.specs.Lists.{SomeOf, IsAmong}
use Rattle.text_core.proofs.Laws.{among_append, each_get, some_at, take_next}
use Rattle.logic_core.specs.declared.form.Form.{Form}
use Rattle.coherent_form.specs.declared.label.Label.{Label}
use Rattle.proof_text.specs.declared.body.Binding.{Binding}
use Rattle.proof_text.specs.declared.body.ArgsText.TheVariants.{Named}
use Rattle.proof_text.specs.StandsFor.{Gives, EachGiven, labels_of}
use Rattle.proof_text.specs.Branches.{element_of}
use Rattle.proof_checker.specs.Checks.{EachBehind, FailsAt}
use Rattle.proof_checker.specs.Faults.{AreNames, ArgsFault}
use Rattle.proof_checker.specs.declared.refusal.Why.{Why}
use Rattle.proof_checker.specs.declared.refusal.Why.TheVariants as why
use Rattle.proof_checker.proofs.Compared.{get_map}
use Rattle.proof_checker.proofs.Elements.{bound_labels}
use Rattle.proof_checker.proofs.Labelled.{Differ, covers, labels_of-long}
use Rattle.proof_checker.proofs.Named.{item_read}
use Rattle.proof_checker.proofs.Ordered.{each_fails, each_passes}

-- a name that is there is before the end
place_within : (names : List Text) (text : Text) → IsAmong text names → position_or_len (bytes_eq text) names < length names
place_within [] text among = absurd among
place_within (x ∷ names) text among = step (bytes_eq text x) refl (λ later. place_within names text later)
  where
    step : (same : Bool) → bytes_eq text x ≡ same → (IsAmong text names → position_or_len (bytes_eq text) names < length names)
        → cond (not same) (1 + position_or_len (bytes_eq text) names) 0 < length (x ∷ names)
    step true e within = omega arith
    step false e within = elim among [
      | inl here ↦ absurd (let passes : bytes_eq text x ≡ true = (bytes_eq-Decides text x).1 (sym here) in let bad : false ≡ true = sym e ∙ passes in cc)
      | inr later ↦ let rest = within later in omega arith
    ]

-- a name that is that of no element is not there
pub element_none : (names : List Text) (text : Text) → element_of names text ≡ None → IsAmong text names → ⊥
element_none names text none among =
    let within : nat_lt (position_or_len (bytes_eq text) names) (length names) ≡ true = grind (arith, place_within names text among) in
    let found : element_of names text ≡ Some (position_or_len (bytes_eq text) names)
    = ap (λ b. cond b (Some (position_or_len (bytes_eq text) names)) None) within in cc

-- names of which one is that of no element
pub unnamed : (names texts : List Text) (i : ℕ) (text : Text) → i < length texts → text ≡ get_or texts i text → element_of names text ≡ None
    → AreNames names texts → ⊥
unnamed names texts i text below is none all =
    element_none names text none (each_get (λ t. IsAmong t names) texts i text all (item_read texts i text below is))

-- a binding with the label gives it the element of its value
pub bound_some : (names : List Text) (label : Label) (binds : List Binding) (i : ℕ) (bind : Binding) (found : Option ℕ) → i < length binds
    → bind ≡ get_or binds i bind → bind.label ≡ label → found ≡ element_of names bind.value → IfSome found (λ e. SomeOf (Gives names label e) binds)
bound_some names label binds i bind None below is same told = tt
bound_some names label binds i bind (Some e) below is same told =
    some_at (Gives names label e) binds i bind (item_read binds i bind below is) (record { label_is = same; value = sym told })

-- or its value is that of no element
pub bound_none : (names : List Text) (label : Label) (binds : List Binding) (i : ℕ) (bind : Binding) (found : Option ℕ) → i < length binds
    → bind ≡ get_or binds i bind → found ≡ element_of names bind.value
    → IfNone found (AreNames names (map (λ (b : Binding). b.value) binds) → IsAmong label (bound_labels binds) → ⊥)
bound_none names label binds i bind None below is told = λ all among.
    element_none names bind.value (sym told) (each_get (λ t. IsAmong t names) (map (λ (b : Binding). b.value) binds) i bind.value all
    (get_map (λ (b : Binding). b.value) binds i bind (item_read binds i bind below is)))
bound_none names label binds i bind (Some e) below is told = tt

-- one more label is given an element
pub given_next : (names : List Text) (binds : List Binding) (labels : List Label) (i : ℕ) (label : Label) (elements longer : List ℕ) (e : ℕ) → i < length labels
    → label ≡ get_or labels i label → EachGiven names binds (take i labels) elements → SomeOf (Gives names label e) binds → longer ≡ elements ++ e ∷ []
    → EachGiven names binds (take (i + 1) labels) longer
given_next names binds labels i label elements longer e below is given here grown =
    subst (EachGiven names binds (take (i + 1) labels)) (sym grown)
    (subst (λ (ls : List Label). EachGiven names binds ls (elements ++ e ∷ [])) (sym (take_next labels i label (item_read labels i label below is)))
    (last (take i labels) elements given))
  where
    last : (ls : List Label) (es : List ℕ) → EachGiven names binds ls es → EachGiven names binds (ls ++ label ∷ []) (es ++ e ∷ [])
    last [] [] given = (here, tt)
    last [] (n ∷ es) given = absurd given
    last (l ∷ ls) [] given = absurd given
    last (l ∷ ls) (n ∷ es) given = (given.0, last ls es given.1)

-- a member that is none of those before it
differ_last : {X : Type 0} (xs : List X) (y : X) → Differ xs → (IsAmong y xs → ⊥) → Differ (xs ++ y ∷ [])
differ_last [] y differ lacks = ((λ among. absurd among), tt)
differ_last (x ∷ xs) y differ lacks = (
  (λ among. elim (among_append x xs (y ∷ []) among) [
    | inl front ↦ differ.0 front
    | inr back ↦ elim back [ inl same ↦ lacks (inl (sym same)) | inr nothing ↦ absurd nothing ]
  ]),
  differ_last xs y differ.1 (λ among. lacks (inr among)),
)

-- bindings whose labels differ from those before them all differ
behind_differ : (front binds : List Binding) → Differ (bound_labels front)
    → EachBehind (λ before (bind : Binding). IsAmong bind.label (bound_labels before) → ⊥) front binds → Differ (bound_labels (front ++ binds))
behind_differ front [] differ each = subst (λ (bs : List Binding). Differ (bound_labels bs)) (sym (append-nil front)) differ
behind_differ front (bind ∷ binds) differ each =
    let longer : bound_labels (front ++ bind ∷ []) ≡ bound_labels front ++ bind.label ∷ [] = map-append (λ (b : Binding). b.label) front (bind ∷ []) in
    subst (λ (bs : List Binding). Differ (bound_labels bs)) (append_assoc front (bind ∷ []) binds)
    (behind_differ (front ++ bind ∷ []) binds (subst Differ (sym longer) (differ_last (bound_labels front) bind.label differ each.0)) each.1)

-- bindings whose labels are each among some
behind_among : (labels : List Label) (front binds : List Binding) → EachBehind (λ before (bind : Binding). IsAmong bind.label labels) front binds
    → AllByRecursion (λ label. IsAmong label labels) (bound_labels binds)
behind_among labels front [] each = tt
behind_among labels front (bind ∷ binds) each = (each.0, behind_among labels (front ++ bind ∷ []) binds each.1)

module _ (names : List Text) (form : Form) (variables : List Text) (binds : List Binding) (rest : Why → Type 0) where
  -- as many values as bindings
  values_long : length (map (λ (b : Binding). b.value) binds) ≡ length binds
  values_long = length-map binds (λ (b : Binding). b.value)

  -- not as many bindings as variables
  pub named_count : (length binds ≡ form.universals → ⊥) → ArgsFault names form variables (Named binds) rest why.InstanceCount
  named_count differ = inl ((λ same. differ (sym values_long ∙ same)), refl)

  -- a label of no variable
  pub named_unknown : (number : ℕ) → length binds ≡ form.universals
      → FailsAt (λ front (bind : Binding). IsAmong bind.label (labels_of variables)) [] binds number
      → ArgsFault names form variables (Named binds) rest (why.VariableUnknown number)
  named_unknown number long fails = inr (values_long ∙ long, each_fails why.VariableUnknown _ _ [] binds number fails)

  -- a label that is there already
  pub named_repeated : (number : ℕ) → length binds ≡ form.universals
      → EachBehind (λ front (bind : Binding). IsAmong bind.label (labels_of variables)) [] binds
      → FailsAt (λ front (bind : Binding). IsAmong bind.label (map (λ (other : Binding). other.label) front) → ⊥) [] binds number
      → ArgsFault names form variables (Named binds) rest (why.VariableTwice number)
  named_repeated number long known fails = inr (
    values_long ∙ long,
    each_passes why.VariableUnknown _ _ [] binds (why.VariableTwice number) known
        (each_fails why.VariableTwice _ _ [] binds number fails),
  )

  -- each variable's label is bound, where the labels are known and differ and there are as many
  pub named_bound : length binds ≡ length variables
      → EachBehind (λ front (bind : Binding). IsAmong bind.label (labels_of variables)) [] binds
      → EachBehind (λ front (bind : Binding). IsAmong bind.label (map (λ (other : Binding). other.label) front) → ⊥) [] binds
      → AllByRecursion (λ label. IsAmong label (bound_labels binds)) (labels_of variables)
  named_bound long known differ = (covers (bound_labels binds) (labels_of variables) (behind_differ [] binds tt differ)
      (behind_among (labels_of variables) [] binds known) (labels_of-long variables ∙ sym long ∙ sym (length-map binds (λ (b : Binding). b.label)))).0

  -- a value that is that of no element
  pub named_value : length binds ≡ form.universals
      → EachBehind (λ front (bind : Binding). IsAmong bind.label (labels_of variables)) [] binds
      → EachBehind (λ front (bind : Binding). IsAmong bind.label (map (λ (other : Binding). other.label) front) → ⊥) [] binds
      → (AreNames names (map (λ (b : Binding). b.value) binds) → ⊥)
      → ArgsFault names form variables (Named binds) rest why.InstanceUnknown
  named_value long known differ unnamed = inr (
    values_long ∙ long,
    each_passes why.VariableUnknown _ _ [] binds why.InstanceUnknown known
        (each_passes why.VariableTwice _ _ [] binds why.InstanceUnknown differ (inl (unnamed, refl))),
  )
