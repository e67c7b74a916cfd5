-- A step that was checked: its form, why it is refused, and why it stands.
use Rattle.std.proofs.Common.{◌≡◌, ℕ, zero, suc, ◌<◌, inl, inr, List, [], ◌∷◌, ◌++◌, length, get_or, slice_get, Some, Result, Ok, Err, refl, ap, ◌∙◌, arith}
use Rattle.std.specs.List.{AllByRecursion}
use Rattle.std.specs.Result.{IfErr, IsErrAnd}
use Rattle.std.proofs.lemmas.List.Quantifiers.{position-Some}
use Rattle.std.specs.Str.{bytes_eq}
use Rattle.text_core.specs.Names.{Text}
use Rattle.text_core.specs.Lists.{SomeOf, IsAmong}
use Rattle.text_core.proofs.Laws.{each_get, some_at}
use Rattle.logic_core.specs.declared.form.Atom.{Atom}
use Rattle.logic_core.specs.declared.form.Form.{Form}
use Rattle.vernacular_tree.specs.Contexts.{atom_at, Stands as HasFact}
use Rattle.coherent_form.specs.Fitting.{FormFits}
use Rattle.coherent_form.specs.Kept.{IsRight, AreVariables}
use Rattle.coherent_form.specs.Tasks.{CitedTask}
use Rattle.coherent_form.specs.declared.citation.Citation.{Citation}
use Rattle.coherent_form.specs.declared.label.Label.{Label}
use Rattle.proof_text.specs.declared.body.Binding.{Binding}
use Rattle.proof_text.specs.declared.body.ArgsText as ArgsText
use Rattle.proof_text.specs.declared.body.ArgsText.TheVariants.{Listed, Named}
use Rattle.proof_text.specs.declared.body.MpText.{MpText}
use Rattle.proof_text.specs.StandsFor.{NamesStand, Gives, EachGiven, labels_of, ArgsStand}
use Rattle.proof_text.specs.Branches.{element_of}
use Rattle.proof_checker.specs.Checks.{Nothing, Unless, UnlessEach}
use Rattle.proof_checker.specs.Faults.{binds_in, ArgsFault, FormFault, StepFault}
use Rattle.proof_checker.specs.Kept.{Kept, branch_of}
use Rattle.proof_checker.specs.Running.{HaltsBy, AreItsVariables, IsTaken, IsStep}
use Rattle.proof_checker.specs.declared.halt.Halt as Halt
use Rattle.proof_checker.specs.declared.halt.Halt.TheVariants as halt
use Rattle.proof_checker.specs.declared.refusal.Why.{Why}
use Rattle.proof_checker.specs.declared.refusal.Why.TheVariants as why
use Rattle.proof_checker.proofs.Elements.{args_long, args_labels, args_differ, args_known}
use Rattle.proof_checker.proofs.Named.{item_read}
use Rattle.proof_checker.proofs.Ordered.{behind_each, each_passes}

-- what is told of an error that is handed on
pub handed_on : {T E : Type 0} (r : Result T E) (Q P : E → Type 0) → ((y : E) → Q y → P y) → IsErrAnd r Q → IfErr r P
handed_on (Ok x) Q P more h = tt
handed_on (Err y) Q P more h = more y h

-- a halt for one of these reasons is one for others
pub halts_so : (P Q : Why → Type 0) → ((reason : Why) → P reason → Q reason) → (stop : Halt.Halt) → HaltsBy P stop → HaltsBy Q stop
halts_so P Q more (halt.Fault reason) h = more reason h
halts_so P Q more halt.Memory h = tt

-- the number of an item is below the length
pub get_within : {X : Type 0} (xs : List X) (i : ℕ) (x : X) → slice_get xs i ≡ Some x → i < length xs
get_within [] i x is = absurd (cc)
get_within (y ∷ ys) zero x is = omega arith
get_within (y ∷ ys) (suc i) x is = let rest : i < length ys = get_within ys i x is in omega arith

-- a citation's number is that of a form
pub form_within : (task : CitedTask) (cite : Citation) (n : ℕ) → IsRight task → slice_get task.citations n ≡ Some cite → n < length task.forms
form_within task cite n right cited =
    let within : n < length task.citations = get_within task.citations n cite cited in
    let same = right.citations in omega (arith, within, same)

-- the form with its number
pub form_here : (task : CitedTask) (cite : Citation) (n : ℕ) (forms : List Form) (form : Form) → IsRight task → slice_get task.citations n ≡ Some cite
    → forms ≡ task.forms → form ≡ get_or forms n form → slice_get task.forms n ≡ Some form
form_here task cite n forms form right cited are is = item_read task.forms n form (form_within task cite n right cited) (is ∙ ap (λ (fs : List Form). get_or fs n form) are)

-- a form of a task fits
pub form_fits : (task : CitedTask) (n : ℕ) (form : Form) → IsRight task → slice_get task.forms n ≡ Some form → FormFits task.tables form
form_fits task n form right at = each_get (FormFits task.tables) task.forms n form right.forms at

-- a form has variables
pub variables_here : (task : CitedTask) (n : ℕ) (form : Form) → IsRight task → slice_get task.forms n ≡ Some form
    → (variables : List Text) × AreItsVariables task n form variables
variables_here task n form right at =
    let found = search task.forms task.variables n right.variables at in
    (found.0, record { form_is = at; are = found.1; as_many = found.2 })
  where
    search : (forms : List Form) (each : List (List Text)) (n : ℕ) → AreVariables forms each → slice_get forms n ≡ Some form
        → (variables : List Text) × (slice_get each n ≡ Some variables) × (length variables ≡ form.universals)
    search [] each n are at = absurd (cc)
    search (f ∷ forms) [] n are at = absurd are
    search (f ∷ forms) (names ∷ each) zero are at =
        let same : f ≡ form = cc in (names, refl, are.0.count ∙ ap (λ (g : Form). g.universals) same)
    search (f ∷ forms) (names ∷ each) (suc n) are at = search forms each n are.1 at

-- checks of items, whatever is behind them
each_more : {X : Type 0} (fault : ℕ → Why) (P : List X → X → Type 0) (rest other : Why → Type 0) → ((reason : Why) → rest reason → other reason)
    → (before xs : List X) (reason : Why) → UnlessEach fault P rest before xs reason → UnlessEach fault P other before xs reason
each_more fault P rest other more before [] reason told = more reason told
each_more fault P rest other more before (x ∷ xs) reason (inl here) = inl here
each_more fault P rest other more before (x ∷ xs) reason (inr later) = inr (later.0, each_more fault P rest other more (before ++ x ∷ []) xs reason later.1)

-- a check, whatever is behind it
unless_more : (P : Type 0) (fault : Why) (rest other : Why → Type 0) → ((reason : Why) → rest reason → other reason)
    → (reason : Why) → Unless P fault rest reason → Unless P fault other reason
unless_more P fault rest other more reason (inl here) = inl here
unless_more P fault rest other more reason (inr later) = inr (later.0, more reason later.1)

-- the checks of an instance, whatever is behind them
pub args_more : (names variables : List Text) (form : Form) (args : ArgsText.ArgsText) (rest : Why → Type 0) (reason : Why)
    → ArgsFault names form variables args Nothing reason → ArgsFault names form variables args rest reason
args_more names variables form args rest = unless_more _ _ _ _ (each_more why.VariableUnknown _ _ _ (each_more why.VariableTwice _ _ _
    (unless_more _ _ _ _ (λ reason none. absurd none)) [] (binds_in args)) [] (binds_in args))

-- what is behind the checks of an instance that stands
pub args_passed : (names variables : List Text) (form : Form) (text : ArgsText.ArgsText) (args : List ℕ) (rest : Why → Type 0) (reason : Why)
    → ArgsStand names variables text args → length args ≡ form.universals → rest reason → ArgsFault names form variables text rest reason
args_passed names variables form text args rest reason stand many told = inr (
  args_long names variables text args stand ∙ many,
  each_passes why.VariableUnknown _ _ [] (binds_in text) reason
      (behind_each (λ (bind : Binding). IsAmong bind.label (labels_of variables)) [] (binds_in text) (args_labels names variables text args stand))
      (each_passes why.VariableTwice _ _ [] (binds_in text) reason (args_differ names variables text args stand)
      (inr (args_known names variables text args stand, told))),
)

-- a step is refused for what its form is refused
pub step_refused : (task : CitedTask) (kept : Kept) (text : MpText) (n : ℕ) (form : Form) (variables : List Text) (reason : Why)
    → slice_get task.citations n ≡ Some text.cite → AreItsVariables task n form variables → FormFault task (branch_of kept) text form variables reason
    → StepFault task (branch_of kept) text reason
step_refused task kept text n form variables reason cited are fault =
    inr (
      some_at (λ cite. cite ≡ text.cite) task.citations n text.cite cited refl,
      (n, form, variables, record { cited = cited; form_is = are.form_is; variables_are = are.are }, fault),
    )

-- names that stand for elements stand for ones that are there
pub names_below : (names texts : List Text) (es : List ℕ) → NamesStand names texts es → AllByRecursion (λ e. e < length names) es
names_below names [] [] stand = tt
names_below names [] (e ∷ es) stand = absurd (cc)
names_below names (text ∷ texts) [] stand = absurd (cc)
names_below names (text ∷ texts) (e ∷ es) stand =
    let first : element_of names text ≡ Some e = cc in
    ((position-Some (bytes_eq text) names e [] first).0, names_below names texts es (let rest : _ = cc in rest))

-- a binding gives an element that is there
gives_below : (names : List Text) (label : Label) (e : ℕ) (binds : List Binding) → SomeOf (Gives names label e) binds → e < length names
gives_below names label e [] some = absurd some
gives_below names label e (bind ∷ binds) (inl here) = (position-Some (bytes_eq bind.value) names e [] here.value).0
gives_below names label e (bind ∷ binds) (inr later) = gives_below names label e binds later

-- labels are given elements that are there
given_below : (names : List Text) (binds : List Binding) (labels : List Label) (es : List ℕ) → EachGiven names binds labels es → AllByRecursion (λ e. e < length names) es
given_below names binds [] [] given = tt
given_below names binds [] (e ∷ es) given = absurd given
given_below names binds (label ∷ labels) [] given = absurd given
given_below names binds (label ∷ labels) (e ∷ es) given = (gives_below names label e binds given.0, given_below names binds labels es given.1)

-- an instance stands for elements that are there
pub args_below : (names variables : List Text) (text : ArgsText.ArgsText) (es : List ℕ) → ArgsStand names variables text es → AllByRecursion (λ e. e < length names) es
args_below names variables (Listed texts) es stand = names_below names texts es stand
args_below names variables (Named binds) es stand = given_below names binds (labels_of variables) es stand.1

-- a step that was checked stands and is taken
pub step_is : (task : CitedTask) (text : MpText) (old new : Kept) (n : ℕ) (form : Form) (variables : List Text) (args : List ℕ)
    → slice_get task.citations n ≡ Some text.cite → AreItsVariables task n form variables
    → ArgsStand old.names variables text.args args → length args ≡ form.universals
    → AllByRecursion (λ (atom : Atom). HasFact (branch_of old).context (atom_at args atom)) form.premises
    → IsTaken task text form args old new → IsStep task text (record { form = n; args = args }) old new
step_is task text old new n form variables args cited are stand many premises taken = record {
  stands = record {
    form = form;
    variables = variables;
    is = record { cited = cited; form_is = are.form_is; variables_are = are.are };
    args = stand;
    as_many = taken.as_many;
    new = taken.fresh;
    shown = taken.shown;
  };
  instance = record {
    args_known = record { length_is = many; known = args_below old.names variables text.args args stand };
    premises = premises;
  };
  branch_is = taken.branch_is;
  kept = taken.kept;
  grows = taken.grows;
}
