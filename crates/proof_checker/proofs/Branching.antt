-- The proofs of a split's cases as a list.
use Rattle.std.proofs.Common.{◌≡◌, ℕ, List, [], ◌∷◌, length, slice_get, Some, ap, subst, sym, arith}
use Rattle.logic_core.specs.declared.form.Atom.{Atom}
use Rattle.vernacular_tree.specs.Contexts.{Task, with_facts}
use Rattle.vernacular_tree.specs.Rules.{StepsThen, Closes, EachProves}
use Rattle.vernacular_tree.specs.declared.context.Line.TheVariants.{Cases}
use Rattle.vernacular_tree.specs.declared.context.Context.{Context}
use Rattle.vernacular_tree.specs.declared.tree.Body.{Body}
use Rattle.vernacular_tree.specs.declared.tree.End.{Cs}
use Rattle.vernacular_tree.specs.declared.tree.End.TheBlock.{shape-the_row-Body-0}
use Rattle.vernacular_tree.proofs.Laws.{row_of, Cs_opens}

-- there are as many bodies as lists, and each is a proof from the context with its list
abbrev pub BodiesProve : Task → List Body → List (List Atom) → Context → Type 0
BodiesProve task [] lists context = lists ≡ []
BodiesProve task (body ∷ bodies) lists context =
    (facts : List Atom) × (more : List (List Atom)) × (lists ≡ facts ∷ more)
    × StepsThen task body.steps (Closes task body.end) (with_facts context facts) × BodiesProve task bodies more context

-- the proofs of the row of a list are those of the list
row_proves : (task : Task) (bodies : List Body) (lists : List (List Atom)) (context : Context)
    → EachProves task (row_of bodies) lists context → BodiesProve task bodies lists context
unfolding row_of shape-the_row-Body-0
row_proves task [] lists context each = each
row_proves task (body ∷ bodies) lists context each =
    (each.0, each.1, each.2, each.3, row_proves task bodies each.1 context each.4)

-- the proofs of a list are those of its row
proves_row : (task : Task) (bodies : List Body) (lists : List (List Atom)) (context : Context)
    → BodiesProve task bodies lists context → EachProves task (row_of bodies) lists context
unfolding row_of shape-the_row-Body-0
proves_row task [] lists context each = each
proves_row task (body ∷ bodies) lists context each =
    (each.0, each.1, each.2, each.3, proves_row task bodies each.1 context each.4)

-- a split closes a branch where each body proves its case of the line
pub Cs_closes : (task : Task) (line : ℕ) (bodies : List Body) (context : Context) → Closes task (Cs line bodies) context
    → (lists : List (List Atom)) × (slice_get context.lines line ≡ Some (Cases lists)) × BodiesProve task bodies lists context
Cs_closes task line bodies context closes =
    let opened = subst (λ end. Closes task end context) (Cs_opens line bodies) closes in
    (opened.0, opened.1, row_proves task bodies opened.0 context opened.2)

pub closes_Cs : (task : Task) (line : ℕ) (bodies : List Body) (lists : List (List Atom)) (context : Context)
    → slice_get context.lines line ≡ Some (Cases lists) → BodiesProve task bodies lists context → Closes task (Cs line bodies) context
closes_Cs task line bodies lists context at each =
    subst (λ end. Closes task end context) (sym (Cs_opens line bodies)) (lists, at, proves_row task bodies lists context each)

-- there are as many bodies as lists
pub bodies_many : (task : Task) (bodies : List Body) (lists : List (List Atom)) (context : Context) → BodiesProve task bodies lists context → length bodies ≡ length lists
bodies_many task [] lists context prove = sym (ap length prove)
bodies_many task (body ∷ bodies) lists context (facts, more, is, proves, rest) =
    let tail : length bodies ≡ length more = bodies_many task bodies more context rest in
    let long : length lists ≡ length (facts ∷ more) = ap length is in
    omega arith
