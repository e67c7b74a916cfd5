-- What a proof is, by the four rules of the 2014 paper "A Vernacular for Coherent Logic": extended
-- modus ponens, case split, assumption, ex falso quodlibet.
use Rattle.std.specs.Prelude.{ℕ, ◌<◌, ◌-◌, ◌≡◌, List, [], ◌∷◌, ◌++◌, length, slice_get, Some}
use Rattle.std.specs.List.{AllByRecursion}
use Rattle.text_core.specs.Lists.{SomeOf}
use Rattle.logic_core.specs.declared.form.Atom.{Atom}
use Rattle.logic_core.specs.declared.form.Form.{Form}
use Rattle.vernacular_tree.specs.Contexts.{Task, parameters, atom_at, Stands, start_context, with_facts, after_mp}
use Rattle.vernacular_tree.specs.declared.context.Line.TheVariants.{Cases, Falsum}
use Rattle.vernacular_tree.specs.declared.context.Context.{Context}
use Rattle.vernacular_tree.specs.declared.tree.Mp.{Mp}
use Rattle.vernacular_tree.specs.declared.tree.Body.{Body}
use Rattle.vernacular_tree.specs.declared.tree.End.{End, As, Efq, Cs', Row_of-Body, end_of-Body, more_of-Body}

-- elements of the context, as many as asked for
pub record AreKnown (context : Context) (count : ℕ) (elements : List ℕ) : Type 0 where
  pub length_is : length elements ≡ count
  pub known : AllByRecursion (λ e. e < context.elements) elements

-- a form may be applied: one element for each universal variable, and every premise at them stands
pub record IsInstance (context : Context) (form : Form) (args : List ℕ) : Type 0 where
  pub args_known : AreKnown context form.universals args
  pub premises : AllByRecursion (λ atom. Stands context (atom_at args atom)) form.premises

-- a disjunct of the goal, counted from 1, stands at the parameters and one element for each
-- existential variable
pub record IsAnswer (task : Task) (context : Context) (disjunct : ℕ) (args : List ℕ) : Type 0 where
  pub atoms : List Atom
  pub from_one : 0 < disjunct
  pub disjunct_is : slice_get task.goal.disjuncts (disjunct - 1) ≡ Some atoms
  pub args_known : AreKnown context task.goal.existentials args
  pub stand : AllByRecursion (λ atom. Stands context (atom_at (parameters task ++ args) atom)) atoms

module _ (task : Task) where
  -- the steps may be taken in order, and P holds of the context after them
  abbrev pub StepsThen : List Mp → (Context → Type 0) → Context → Type 0
  StepsThen [] P context = P context
  StepsThen (step ∷ steps) P context = (form : Form) × (slice_get task.forms step.form ≡ Some form)
      × IsInstance context form step.args × StepsThen steps P (after_mp context form step.args)

  abbrev mutual
    -- the branch is closed
    pub Closes : End → Context → Type 0
    Closes (As disjunct args) context = IsAnswer task context disjunct args
    Closes Efq context = SomeOf (λ line. line ≡ Falsum) context.lines
    Closes (Cs' line _ branches) context = (lists : List (List Atom))
        × (slice_get context.lines line ≡ Some (Cases lists)) × EachProves branches lists context

    -- there are as many branches as lists, and each is a proof from the context with its list
    pub EachProves : {n : _} → Row_of-Body n → List (List Atom) → Context → Type 0
    EachProves end_of-Body lists context = lists ≡ []
    EachProves (more_of-Body steps end rest) lists context =
        (facts : List Atom) × (more : List (List Atom)) × (lists ≡ facts ∷ more)
        × StepsThen steps (Closes end) (with_facts context facts) × EachProves rest more context

  -- a body is a proof from a context
  abbrev pub IsProof : Context → Body → Type 0
  IsProof context body = StepsThen body.steps (Closes body.end) context

-- a vernacular proof of the task
abbrev pub Proves : Task → Body → Type 0
Proves task body = IsProof task (start_context task) body
