-- When a split that code builds closes a branch, by the list of its branches.
use Rattle.std.proofs.Common.{◌≡◌, ℕ, List, [], ◌∷◌, slice_get, Some, sym, subst}
use Rattle.logic_core.specs.declared.form.Atom.{Atom}
use Rattle.vernacular_tree.specs.Contexts.{Task, with_facts}
use Rattle.vernacular_tree.specs.Rules.{Closes, EachProves, IsProof}
use Rattle.vernacular_tree.specs.declared.context.Line.TheVariants.{Cases}
use Rattle.vernacular_tree.specs.declared.context.Context.{Context}
use Rattle.vernacular_tree.specs.declared.tree.Body.{Body}
use Rattle.vernacular_tree.specs.declared.tree.End.{End, Cs}
use Rattle.vernacular_tree.specs.declared.tree.End.TheBlock.{shape-the_row-Body-0}
use Rattle.vernacular_tree.proofs.Rows.{row_of, Cs_opens}

-- there are as many bodies as lists, and each is a proof from the context with its list
abbrev pub ListProves : Task → List Body → List (List Atom) → Context → Type 0
ListProves task [] lists context = lists ≡ []
ListProves task (body ∷ bodies) lists context = (facts : List Atom) × (more : List (List Atom)) × (lists ≡ facts ∷ more)
    × IsProof task (with_facts context facts) body × ListProves task bodies more context

-- a list of bodies that proves each of the lists does so as a row
pub row_proves : (task : Task) (bodies : List Body) (lists : List (List Atom)) (context : Context)
    → ListProves task bodies lists context → EachProves task (row_of bodies) lists context
unfolding row_of shape-the_row-Body-0
row_proves task [] lists context h = h
row_proves task (body ∷ bodies) lists context h = (h.0, h.1, h.2, h.3, row_proves task bodies h.1 context h.4)

-- a split closes a branch where its bodies prove each of the cases of its line
pub split_closes : (task : Task) (line : ℕ) (bodies : List Body) (lists : List (List Atom)) (context : Context)
    → slice_get context.lines line ≡ Some (Cases lists) → ListProves task bodies lists context → Closes task (Cs line bodies) context
split_closes task line bodies lists context is prove =
    subst (λ (end : End). Closes task end context) (sym (Cs_opens line bodies)) (lists, is, row_proves task bodies lists context prove)
