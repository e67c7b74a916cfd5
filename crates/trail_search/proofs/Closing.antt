-- When an end closes what is kept, and when none does.
use Rattle.std.proofs.Common.{◌≡◌, ℕ, ◌+◌, ◌-◌, ◌<◌, ◌≤◌, inl, inr, Bool, true, false, List, [], ◌∷◌, slice_get, Some, sym, ap, ◌∙◌, subst, arith}
use Rattle.std.proofs.Math.Nat.{eq-or-lt_of_le}
use Rattle.std.specs.List.{AllByRecursion}
use Rattle.text_core.specs.Lists.{IsAmong}
use Rattle.logic_core.specs.declared.form.Form.{Form}
use Rattle.vernacular_tree.specs.Rules.{IsInstance, IsAnswer}
use Rattle.vernacular_tree.specs.declared.context.Context.{Context}
use Rattle.coherent_form.specs.Kept.{IsRight}
use Rattle.coherent_form.specs.Tasks.{CitedTask, proof_task, start_elements}
use Rattle.instance_cursor.specs.Instances.{IsInstanceOver}
use Rattle.kept_context.specs.Kept.{Kept, Represents}
use Rattle.kept_context.proofs.Laws.{instance_over, instance_of}
use Rattle.trail_search.specs.Answers.{AreAnswers}
use Rattle.trail_search.specs.Searches.{IsOpen}
use Rattle.trail_search.proofs.Disjuncts.{answer_is, answer_there, answer_variables, answer_premises, answer_below, answer_small}
use Rattle.trail_search.proofs.Trying.{IsTried, first_has}

-- no instance of the first answers stands
abbrev pub NoneAnswers : CitedTask → Context → Kept → List Form → ℕ → Type 0
NoneAnswers task lent kept answers count = (context : Context) → Represents task lent kept context
    → (disjunct : ℕ) (form : Form) (args : List ℕ) → disjunct < count → slice_get answers disjunct ≡ Some form → IsInstance context form args → ⊥

-- a form with no instance left has none
pub none_left : (task : CitedTask) (lent : Context) (kept : Kept) (context : Context) (form : Form) (rest : List (List ℕ)) → Represents task lent kept context
    → ((args : List ℕ) → IsInstanceOver form kept.store.facts kept.elements args → IsAmong args rest) → rest ≡ []
    → (args : List ℕ) → IsInstance context form args → ⊥
none_left task lent kept context form rest r all over args instance =
    let among = all args (instance_over task lent kept context r form args instance) in
    let none = subst (λ (xs : List (List ℕ)). IsAmong args xs) over among in none

-- where no line is falsehood and no answer has an instance, no end closes
pub stays_open : (task : CitedTask) (lent : Context) (kept : Kept) (answers : List Form) (count : ℕ) → AreAnswers task answers → kept.falsum ≡ false
    → ((disjunct : ℕ) (form : Form) → slice_get answers disjunct ≡ Some form → disjunct < count) → NoneAnswers task lent kept answers count
    → (context : Context) → Represents task lent kept context → IsOpen (proof_task task) context
stays_open task lent kept answers count are no_falsum within none context r = record {
  no_falsum = λ some. let bad : false ≡ true = sym no_falsum ∙ r.falsum.1 some in cc;
  no_answer = λ disjunct args answer. let there = answer_there task answers are context disjunct args answer in
      none context r (disjunct - 1) there.0 args (within (disjunct - 1) there.0 there.1) there.1 there.2;
}

-- what a cursor asks of an answer
pub answer_tried : (task : CitedTask) (answers : List Form) (elements disjunct : ℕ) (form : Form) → IsRight task → AreAnswers task answers → start_elements task ≤ elements
    → slice_get answers disjunct ≡ Some form → IsTried elements form
answer_tried task answers elements disjunct form right are le is = record {
  variables = answer_variables task answers right are disjunct form is;
  premises = answer_premises task answers right are disjunct form is;
  below = answer_below task answers right are disjunct form is elements le;
  small = answer_small task answers right are disjunct form is;
}

-- one more answer without an instance
pub answers_next : (task : CitedTask) (lent : Context) (kept : Kept) (answers : List Form) (count : ℕ) (form : Form) (rest : List (List ℕ)) → slice_get answers count ≡ Some form
    → ((args : List ℕ) → IsInstanceOver form kept.store.facts kept.elements args → IsAmong args rest) → rest ≡ []
    → NoneAnswers task lent kept answers count → NoneAnswers task lent kept answers (count + 1)
answers_next task lent kept answers count form rest is all over before context r disjunct other args below also instance =
    elim (eq-or-lt_of_le {n = disjunct} {m = count} (omega arith)) [
      | inl same ↦ let e : Some form ≡ Some other = sym is ∙ sym (ap (slice_get answers) same) ∙ also in
          let one : other ≡ form = cc in
          none_left task lent kept context form rest r all over args (subst (λ (f : Form). IsInstance context f args) one instance)
      | inr less ↦ before context r disjunct other args less also instance
    ]

-- the instance that a cursor gave is an answer
pub answer_given : (task : CitedTask) (lent : Context) (kept : Kept) (answers : List Form) (disjunct : ℕ) (form : Form) (before after : List (List ℕ)) (args : List ℕ)
    → AreAnswers task answers → slice_get answers disjunct ≡ Some form → AllByRecursion (IsInstanceOver form kept.store.facts kept.elements) before → before ≡ args ∷ after
    → (context : Context) → Represents task lent kept context → IsAnswer (proof_task task) context (disjunct + 1) args
answer_given task lent kept answers disjunct form before after args are is each split context r =
    answer_is task answers are context disjunct form args is
    (instance_of task lent kept context r form args (first_has (IsInstanceOver form kept.store.facts kept.elements) before after args split each))
