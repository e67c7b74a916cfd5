-- The instances of a form, over what is kept and in the context that it is.
use Rattle.std.proofs.Common.{◌≡◌, ℕ, suc, ◌+◌, ◌-◌, ◌<◌, ◌≤◌, ◌^◌, ◌⊎◌, inl, inr, max, List, [], ◌∷◌, length, slice_get, get_or, Some, refl, sym, ap, ◌∙◌, subst, arith}
use Rattle.std.specs.List.{AllByRecursion}
use Rattle.std.proofs.lemmas.Option.{slice_get-get_or}
use Rattle.text_core.specs.Lists.{IsAmong}
use Rattle.text_core.specs.declared.limits.TheConstants.{MOST_FORM_ATOMS, MOST_FORM_VARIABLES}
use Rattle.text_core.proofs.Laws.{each_map, each_get}
use Rattle.logic_core.specs.Forms.{SlotIsBelow, AtomIsBelow}
use Rattle.logic_core.specs.declared.form.Atom.{Atom}
use Rattle.logic_core.specs.declared.form.Form.{Form}
use Rattle.logic_core.specs.declared.form.Slot.{Slot}
use Rattle.logic_core.specs.declared.form.Slot.TheVariants.{Variable, Constant}
use Rattle.vernacular_tree.specs.Barren.{Barren}
use Rattle.vernacular_tree.specs.Contexts.{Task, after_mp}
use Rattle.vernacular_tree.specs.Rules.{IsInstance}
use Rattle.vernacular_tree.specs.declared.context.Context.{Context}
use Rattle.coherent_form.specs.Fitting.{FormFits}
use Rattle.coherent_form.specs.Kept.{IsRight}
use Rattle.coherent_form.specs.Tasks.{CitedTask, proof_task, start_elements}
use Rattle.fact_store.specs.Facts.{Facts}
use Rattle.instance_cursor.specs.Cursors.{Place, IsAt, rest_of}
use Rattle.instance_cursor.specs.Instances.{IsInstanceOver}
use Rattle.kept_context.specs.Kept.{Kept, Represents}
use Rattle.kept_context.proofs.Laws.{instance_over}
use Rattle.trail_search.specs.Least.{HasNone}
use Rattle.trail_search.specs.Searches.{IsWide, FormHasNone, InstanceHasNone}

-- each instance of a form is still to come, or leads to no proof
abbrev pub IsLeft : CitedTask → Context → Kept → Form → ℕ → List (List ℕ) → Type 0
IsLeft task lent kept form most rest = (context : Context) → Represents task lent kept context → (args : List ℕ)
    → IsInstanceOver form kept.store.facts kept.elements args → IsAmong args rest ⊎ InstanceHasNone (proof_task task) context form most args

-- one instance less is to come, where it leads to no proof
pub left_next : (task : CitedTask) (lent : Context) (kept : Kept) (form : Form) (most : ℕ) (before after : List (List ℕ)) (args : List ℕ)
    → before ≡ args ∷ after → ((context : Context) → Represents task lent kept context → InstanceHasNone (proof_task task) context form most args)
    → IsLeft task lent kept form most before → IsLeft task lent kept form most after
left_next task lent kept form most before after args split none left context r other over =
    elim (subst (λ (xs : List (List ℕ)). IsAmong other xs ⊎ InstanceHasNone (proof_task task) context form most other) split (left context r other over)) [
      | inl among ↦ elim among [
        | inl same ↦ inr (subst (InstanceHasNone (proof_task task) context form most) same (none context r))
        | inr later ↦ inl later
      ]
      | inr dead ↦ inr dead
    ]

-- where none is to come, the form leads to no proof
pub left_over : (task : CitedTask) (lent : Context) (kept : Kept) (number : ℕ) (form : Form) (most : ℕ) (rest : List (List ℕ))
    → slice_get task.forms number ≡ Some form → rest ≡ [] → IsLeft task lent kept form most rest
    → (context : Context) → Represents task lent kept context → FormHasNone (proof_task task) context number most
left_over task lent kept number form most rest is none left context r other args also instance =
    let same : form ≡ other = let e : Some form ≡ Some other = sym is ∙ also in cc in
    subst (λ (f : Form). InstanceHasNone (proof_task task) context f most args) same
    (elim (subst (λ (xs : List (List ℕ)). IsAmong args xs ⊎ InstanceHasNone (proof_task task) context form most args) none
    (left context r args (instance_over task lent kept context r form args (subst (λ (f : Form). IsInstance context f args) (sym same) instance)))) [
      | inl among ↦ absurd among
      | inr dead ↦ dead
    ])

-- what each member of a list has, its first one has
pub first_has : {X : Type 0} (P : X → Type 0) (xs ys : List X) (x : X) → xs ≡ x ∷ ys → AllByRecursion P xs → P x
first_has P xs ys x is each = let all = subst (AllByRecursion P) is each in all.0

-- and so do the others
others_have : {X : Type 0} (P : X → Type 0) (xs ys : List X) (x : X) → xs ≡ x ∷ ys → AllByRecursion P xs → AllByRecursion P ys
others_have P xs ys x is each = let all = subst (AllByRecursion P) is each in all.1

-- a cursor stands at an instance of a form, behind which the others come
pub record IsAtNext (kept : Kept) (form : Form) (before after : Place) : Type 0 where
  pub at : IsAt after form kept.store.facts kept.elements
  pub split : rest_of before form kept.store.facts kept.elements ≡ after.args ∷ rest_of after form kept.store.facts kept.elements
  pub this : IsInstanceOver form kept.store.facts kept.elements after.args
  pub others : AllByRecursion (IsInstanceOver form kept.store.facts kept.elements) (rest_of after form kept.store.facts kept.elements)

-- a cursor over the store and the elements of what is kept, where that is as before
pub next_kept : (old kept : Kept) (form : Form) (store : Facts) (elements : ℕ) (before after : Place) → kept ≡ old → store ≡ kept.store → elements ≡ kept.elements
    → AllByRecursion (IsInstanceOver form old.store.facts old.elements) (rest_of before form old.store.facts old.elements)
    → IsAt after form store.facts elements → rest_of before form store.facts elements ≡ after.args ∷ rest_of after form store.facts elements
    → IsAtNext old form before after
next_kept old kept form store elements before after same facts number each at split =
    let facts_same : store.facts ≡ old.store.facts = ap (λ (s : Facts). s.facts) facts ∙ ap (λ (k : Kept). k.store.facts) same in
    let elements_same : elements ≡ old.elements = number ∙ ap (λ (k : Kept). k.elements) same in
    let split_old = rw (facts_same, elements_same) at split in
    let before_list = rest_of before form old.store.facts old.elements in
    let after_list = rest_of after form old.store.facts old.elements in record {
      at = rw (facts_same, elements_same) at at;
      split = split_old;
      this = first_has (IsInstanceOver form old.store.facts old.elements) before_list after_list after.args split_old each;
      others = others_have (IsInstanceOver form old.store.facts old.elements) before_list after_list after.args split_old each;
    }

-- a cursor at its end, in the same way
pub over_kept : (old kept : Kept) (form : Form) (store : Facts) (elements : ℕ) (before : Place) → kept ≡ old → store ≡ kept.store → elements ≡ kept.elements
    → rest_of before form store.facts elements ≡ [] → rest_of before form old.store.facts old.elements ≡ []
over_kept old kept form store elements before same facts number over =
    let facts_same : store.facts ≡ old.store.facts = ap (λ (s : Facts). s.facts) facts ∙ ap (λ (k : Kept). k.store.facts) same in
    let elements_same : elements ≡ old.elements = number ∙ ap (λ (k : Kept). k.elements) same in
    rw (facts_same, elements_same) at over

-- a cursor stays as wide
pub wide_kept : (old new : Place) → new.variables ≡ old.variables → new.premises ≡ old.premises → IsWide old → IsWide new
wide_kept old new variables premises wide = let first = wide.variables in let second = wide.premises in record { variables = omega arith; premises = omega arith }

-- an item that was read has its number
pub item_at : {X : Type 0} (xs : List X) (i : ℕ) (x : X) → i < length xs → x ≡ get_or xs i x → slice_get xs i ≡ Some x
item_at xs i x below is = slice_get-get_or xs i x below ∙ ap Some (sym is)

-- the form that was read has its number
pub form_at : (forms all items : List Form) (number : ℕ) (form : Form) → items ≡ all → all ≡ forms → number < length forms → form ≡ get_or items number form
    → slice_get forms number ≡ Some form
form_at forms all items number form read are below is =
    let same : items ≡ forms = read ∙ are in
    let long : number < length items = let e = ap length same in omega arith in
    subst (λ (fs : List Form). slice_get fs number ≡ Some form) same (item_at items number form long is)

-- a slot that is below a number of constants is below a greater one
slot_below : (variables few many : ℕ) → few ≤ many → (slot : Slot) → SlotIsBelow variables few slot → SlotIsBelow variables many slot
slot_below variables few many le (Variable i) h = h
slot_below variables few many le (Constant c) h = let below : c < few = h in omega arith

-- what a cursor asks of a form
pub record IsTried (elements : ℕ) (form : Form) : Type 0 where
  pub variables : form.universals ≤ MOST_FORM_VARIABLES
  pub premises : length form.premises ≤ MOST_FORM_ATOMS
  pub below : AllByRecursion (AtomIsBelow form.universals elements) form.premises
  pub small : AllByRecursion (λ (atom : Atom). atom.symbol < 2 ^ 31) form.premises

-- a form of a task is one that a cursor can take
pub form_tried : (task : CitedTask) (number elements : ℕ) (form : Form) → IsRight task → start_elements task ≤ elements → slice_get task.forms number ≡ Some form
    → IsTried elements form
form_tried task number elements form right le is =
    let fits = each_get (FormFits task.tables) task.forms number form right.forms is in
    let variables = fits.narrow.variables in
    let atoms = fits.narrow.atoms in
    let symbols = right.few_symbols in
    let constants : length task.tables.constants ≤ elements = omega arith in record {
      variables = omega arith;
      premises = omega arith;
      below = each_map (λ atom. each_map (slot_below form.universals (length task.tables.constants) elements constants) atom.args) form.premises fits.formed.premises;
      small = each_map (λ atom fit. let there : atom.symbol < length task.tables.symbols + 1 = fit.there in omega arith) form.premises fits.premises;
    }

-- a form of a task fits its tables, and has few variables
pub form_fits : (task : CitedTask) (number : ℕ) (form : Form) → IsRight task → slice_get task.forms number ≡ Some form → FormFits task.tables form
form_fits task number form right is = each_get (FormFits task.tables) task.forms number form right.forms is

pub form_narrow : (task : CitedTask) (number : ℕ) (form : Form) → IsRight task → slice_get task.forms number ≡ Some form → form.universals ≤ MOST_FORM_VARIABLES
form_narrow task number form right is = let variables = (form_fits task number form right is).narrow.variables in omega arith
