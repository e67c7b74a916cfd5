-- A proof from a context as its applications of modus ponens in one list: each element has one
-- number in the whole proof, and each application stands in a branch. A branch is told by the cases
-- that it went into, the innermost first; the last one is the context from which the proof begins.
use Rattle.std.specs.Prelude.{ℕ, ◌+◌, ◌-◌, ◌<◌, ◌≤◌, ◌≡◌, ◌≢◌, ◌⊎◌, List, [], ◌∷◌, ◌++◌, map, length, slice_get, Some}
use Rattle.std.specs.List.{AllByRecursion}
use Rattle.text_core.specs.Lists.{SomeOf, IsAmong}
use Rattle.logic_core.specs.declared.form.Atom.{Atom}
use Rattle.logic_core.specs.declared.form.Form.{Form}
use Rattle.vernacular_tree.specs.Contexts.{Task, counted, parameters, atom_at}
use Rattle.vernacular_tree.specs.declared.tree.End.{End, As, Efq, Cs', Row_of-Body, end_of-Body, more_of-Body}
use Rattle.vernacular_tree.specs.declared.context.Line.{Line}
use Rattle.vernacular_tree.specs.declared.context.Line.TheVariants.{Facts, Cases, Falsum}
use Rattle.vernacular_tree.specs.declared.context.Context.{Context}

-- a case: its number in its split, and the facts with which it begins
pub record Case : Type 0 where
  pub number : ℕ
  pub facts : List Atom

-- the first branch is the second one, or one that leads to it
abbrev pub Above : List Case → List Case → Type 0
Above upper lower = (more : List Case) × (lower ≡ more ++ upper)

-- an application: the number of its form, the form, one element for each universal variable, its
-- first new element, and its branch
pub record Fire : Type 0 where
  pub number : ℕ
  pub form : Form
  pub args : List ℕ
  pub first : ℕ
  pub branch : List Case

-- the elements of all its form's variables
abbrev pub elements_of : Fire → List ℕ
elements_of fire = fire.args ++ counted fire.first fire.form.existentials

-- the lists of a line, falsehood being the line of no list; a line of facts has none to tell
abbrev pub lists_of : Fire → List (List Atom)
lists_of fire = map (map (atom_at (elements_of fire))) fire.form.disjuncts

-- the application with this number is in this branch or in one that leads to it
pub record IsSeen (fires : List Fire) (index : ℕ) (branch : List Case) : Type 0 where
  pub fire : Fire
  pub is : slice_get fires index ≡ Some fire
  pub above : Above fire.branch branch

-- a fact is one of an application before this number, seen from a branch
pub record IsMade (fires : List Fire) (fact : Atom) (limit : ℕ) (branch : List Case) : Type 0 where
  pub index : ℕ
  pub before : index < limit
  pub seen : IsSeen fires index branch
  pub facts : List Atom
  pub one : lists_of seen.fire ≡ facts ∷ []
  pub among : IsAmong fact facts

-- a fact stands before this number, seen from a branch: some case of the branch has it, or an
-- application made it
abbrev pub Has : List Fire → Atom → ℕ → List Case → Type 0
Has fires fact limit branch = SomeOf (λ case. IsAmong fact case.facts) branch
    ⊎ IsMade fires fact limit branch

-- some fact of these does not stand behind all applications, seen from a branch
abbrev pub IsFresh : List Fire → List Atom → List Case → Type 0
IsFresh fires facts branch = AllByRecursion (λ fact. Has fires fact (length fires) branch) facts → ⊥

-- the case with which a branch begins says something that does not stand in the branch above
abbrev pub IsNovel : List Fire → List Case → Type 0
IsNovel fires [] = Unit {0}
IsNovel fires (case ∷ upper) = upper ≢ [] → IsFresh fires case.facts upper

-- an element is known before this number, seen from a branch: it is one from the beginning, or a
-- new one of an application before
pub record IsNew (fires : List Fire) (element : ℕ) (limit : ℕ) (branch : List Case) : Type 0 where
  pub index : ℕ
  pub before : index < limit
  pub seen : IsSeen fires index branch
  pub from : seen.fire.first ≤ element
  pub below : element < seen.fire.first + seen.fire.form.existentials

abbrev pub IsKnown : ℕ → List Fire → ℕ → ℕ → List Case → Type 0
IsKnown start fires limit element branch = (element < start) ⊎ IsNew fires element limit branch

-- the lists of the lines of a context that are no facts: those of cases, and none for falsehood
abbrev pub given_lists : Line → List (List (List Atom))
given_lists (Facts facts) = []
given_lists (Cases lists) = lists ∷ []
given_lists Falsum = [] ∷ []

abbrev pub all_given : List Line → List (List (List Atom))
all_given [] = []
all_given (line ∷ lines) = given_lists line ++ all_given lines

-- the facts of the lines of a context
abbrev pub line_facts : Line → List Atom
line_facts (Facts facts) = facts
line_facts _ = []

abbrev pub all_facts : List Line → List Atom
all_facts [] = []
all_facts (line ∷ lines) = line_facts line ++ all_facts lines

-- the branch in which a proof begins
abbrev pub root_of : Context → List Case
root_of context = record { number = 0; facts = all_facts context.lines } ∷ []

module _ (task : Task) (context : Context) where
  -- an application is right: its form is there, its elements are known and its premises stand
  pub record IsRight (fires : List Fire) (index : ℕ) (fire : Fire) : Type 0 where
    pub form_is : slice_get task.forms fire.number ≡ Some fire.form
    pub length_is : length fire.args ≡ fire.form.universals
    pub known : AllByRecursion
        (λ e. IsKnown context.elements fires index e fire.branch) fire.args
    pub premises : AllByRecursion
        (λ atom. Has fires (atom_at fire.args atom) index fire.branch) fire.form.premises
    pub new : context.elements ≤ fire.first

  -- all applications are right, no new element has two of them, and each stands in the branch in
  -- which the proof begins or in one to which that leads
  pub record IsRun (fires : List Fire) : Type 0 where
    pub right : (index : ℕ) (fire : Fire) → slice_get fires index ≡ Some fire
        → IsRight fires index fire
    pub apart : (i j : ℕ) (fire later : Fire) → i < j → slice_get fires i ≡ Some fire
        → slice_get fires j ≡ Some later → fire.first + fire.form.existentials ≤ later.first
    pub rooted : (index : ℕ) (fire : Fire) → slice_get fires index ≡ Some fire
        → Above (root_of context) fire.branch

  -- a branch may be split into these lists: they are those of a line of the context, or of an
  -- application that is seen and whose line is not one of facts
  abbrev pub MaySplit : List Fire → List (List Atom) → List Case → Type 0
  MaySplit fires lists branch = IsAmong lists (all_given context.lines)
      ⊎ ((index : ℕ) × (seen : IsSeen fires index branch) × (lists ≡ lists_of seen.fire)
      × (length seen.fire.form.disjuncts ≢ 1))

  -- a disjunct of the goal stands in a branch
  pub record IsAnswered (fires : List Fire) (disjunct : ℕ) (branch : List Case) : Type 0 where
    pub atoms : List Atom
    pub values : List ℕ
    pub disjunct_is : slice_get task.goal.disjuncts (disjunct - 1) ≡ Some atoms
    pub length_is : length values ≡ task.goal.existentials
    pub known : AllByRecursion
        (λ e. IsKnown context.elements fires (length fires) e branch) values
    pub stand : AllByRecursion (λ atom. Has fires (atom_at (parameters task ++ values) atom)
        (length fires) branch) atoms

  abbrev mutual
    -- a branch is closed by an end
    pub IsClosed : List Fire → End → List Case → Type 0
    IsClosed fires (As disjunct args) branch = IsAnswered fires disjunct branch
    IsClosed fires Efq branch = MaySplit fires [] branch
    IsClosed fires (Cs' line _ branches) branch = (lists : List (List Atom))
        × MaySplit fires lists branch × AreClosed fires branches 0 lists branch

    -- the branches of a split, the first one with this number, are closed, and each case says
    -- something new
    pub AreClosed : {n : _} → List Fire → Row_of-Body n → ℕ → List (List Atom) → List Case → Type 0
    AreClosed fires end_of-Body number lists branch = lists ≡ []
    AreClosed fires (more_of-Body steps end rest) number lists branch =
        (facts : List Atom) × (more : List (List Atom)) × (lists ≡ facts ∷ more)
        × IsFresh fires facts branch
        × IsClosed fires end (record { number = number; facts = facts } ∷ branch)
        × AreClosed fires rest (number + 1) more branch

-- some end closes the branch in which a proof begins
abbrev pub IsEnded : Task → Context → List Fire → Type 0
IsEnded task context fires = (end : End) × IsClosed task context fires end (root_of context)

-- the number of ends
abbrev mutual
  pub end_count : End → ℕ
  end_count (As disjunct args) = 1
  end_count Efq = 1
  end_count (Cs' line _ branches) = 1 + end_counts branches

  pub end_counts : {n : _} → Row_of-Body n → ℕ
  end_counts end_of-Body = 0
  end_counts (more_of-Body steps end rest) = end_count end + end_counts rest
