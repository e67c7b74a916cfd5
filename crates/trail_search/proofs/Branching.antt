-- Proofs of a line's cases: by list and by row, the last of them, and how many rule applications they have.
use Rattle.std.proofs.Common.{◌≡◌, ℕ, zero, suc, ◌+◌, ◌-◌, ◌<◌, ◌≤◌, List, [], ◌∷◌, ◌++◌, length, slice_get, Some, refl, sym, subst, arith}
use Rattle.std.specs.List.{sum_by}
use Rattle.std.proofs.lemmas.List.Sums.{sum_by-append}
use Rattle.logic_core.specs.declared.form.Atom.{Atom}
use Rattle.vernacular_tree.specs.Contexts.{Task, with_facts}
use Rattle.vernacular_tree.specs.Rules.{IsProof, EachProves, Closes}
use Rattle.vernacular_tree.specs.Sizes.{size}
use Rattle.vernacular_tree.specs.declared.context.Context.{Context}
use Rattle.vernacular_tree.specs.declared.context.Line.TheVariants.{Cases}
use Rattle.vernacular_tree.specs.declared.tree.Body.{Body}
use Rattle.vernacular_tree.specs.declared.tree.End.{End, Cs, Row_of-Body, end_of-Body, more_of-Body}
use Rattle.vernacular_tree.specs.declared.tree.End.TheBlock.{shape-the_row-Body-0}
use Rattle.vernacular_tree.proofs.Rows.{row_of, bodies_of, Cs_opens, branches_count}
use Rattle.trail_search.specs.Branches.{AreProofs}

-- a list of bodies that proves lists does so as a row
proves_row : (task : Task) (context : Context) (lists : List (List Atom)) (bodies : List Body)
    → AreProofs task context lists bodies → EachProves task (row_of bodies) lists context
unfolding row_of shape-the_row-Body-0
proves_row task context [] [] h = refl
proves_row task context [] (body ∷ bodies) h = absurd h
proves_row task context (facts ∷ lists) [] h = absurd h
proves_row task context (facts ∷ lists) (body ∷ bodies) h = (facts, lists, refl, h.0, proves_row task context lists bodies h.1)

-- a split closes a context where its bodies prove the cases of its line
pub split_is_closed : (task : Task) (context : Context) (line : ℕ) (lists : List (List Atom)) (bodies : List Body)
    → slice_get context.lines line ≡ Some (Cases lists) → AreProofs task context lists bodies → Closes task (Cs line bodies) context
split_is_closed task context line lists bodies is prove =
    subst (λ (end : End). Closes task end context) (sym (Cs_opens line bodies)) (lists, is, proves_row task context lists bodies prove)

-- the branches of a row that proves lists prove them
pub row_proofs : (task : Task) (context : Context) {n : _} (row : Row_of-Body n) (lists : List (List Atom))
    → EachProves task row lists context → AreProofs task context lists (bodies_of row)
row_proofs task context end_of-Body lists h = subst (λ (ls : List (List Atom)). AreProofs task context ls []) (sym h) tt
row_proofs task context (more_of-Body steps end rest) lists h =
    subst (λ (ls : List (List Atom)). AreProofs task context ls (record { steps = steps; end = end } ∷ bodies_of rest)) (sym h.2)
    (h.3, row_proofs task context rest h.1 h.4)

-- one more list with its proof, behind the others
pub proofs_next : (task : Task) (context : Context) (lists : List (List Atom)) (facts : List Atom) (bodies : List Body) (body : Body)
    → AreProofs task context lists bodies → IsProof task (with_facts context facts) body → AreProofs task context (lists ++ facts ∷ []) (bodies ++ body ∷ [])
proofs_next task context [] facts [] body h proves = (proves, tt)
proofs_next task context [] facts (other ∷ bodies) body h proves = absurd h
proofs_next task context (first ∷ lists) facts [] body h proves = absurd h
proofs_next task context (first ∷ lists) facts (other ∷ bodies) body h proves = (h.0, proofs_next task context lists facts bodies body h.1 proves)

-- bodies whose last one proves these facts, and the others the lists before
pub record EndsWith (task : Task) (context : Context) (lists : List (List Atom)) (facts : List Atom) (bodies : List Body) : Type 0 where
  pub others : List Body
  pub body : Body
  pub bodies_are : bodies ≡ others ++ body ∷ []
  pub prove : AreProofs task context lists others
  pub proves : IsProof task (with_facts context facts) body

-- proofs of lists that end with these facts
pub proofs_last : (task : Task) (context : Context) (lists : List (List Atom)) (facts : List Atom) (bodies : List Body)
    → AreProofs task context (lists ++ facts ∷ []) bodies → EndsWith task context lists facts bodies
proofs_last task context [] facts [] h = absurd h
proofs_last task context [] facts (body ∷ []) h = record { others = []; body = body; bodies_are = refl; prove = tt; proves = h.0 }
proofs_last task context [] facts (body ∷ other ∷ bodies) h = absurd h.1
proofs_last task context (first ∷ lists) facts [] h = absurd h
proofs_last task context (first ∷ lists) facts (body ∷ bodies) h =
    let rest = proofs_last task context lists facts bodies h.1 in record {
      others = body ∷ rest.others;
      body = rest.body;
      bodies_are = let same : bodies ≡ rest.others ++ rest.body ∷ [] = rest.bodies_are in cc;
      prove = (h.0, rest.prove);
      proves = rest.proves;
    }

-- as many proofs as lists
pub proofs_count : (task : Task) (context : Context) (lists : List (List Atom)) (bodies : List Body)
    → AreProofs task context lists bodies → length bodies ≡ length lists
proofs_count task context [] [] h = refl
proofs_count task context [] (body ∷ bodies) h = absurd h
proofs_count task context (facts ∷ lists) [] h = absurd h
proofs_count task context (facts ∷ lists) (body ∷ bodies) h = let rest : length bodies ≡ length lists = proofs_count task context lists bodies h.1 in omega arith

-- the rule applications of bodies and of one more
pub sizes_next : (bodies : List Body) (body : Body) → sum_by size (bodies ++ body ∷ []) ≡ sum_by size bodies + size body
sizes_next bodies body =
    let both = sum_by-append size bodies (body ∷ []) in
    let one : sum_by size (body ∷ []) ≡ size body = grind arith in omega arith

-- each proof of a list has a rule application
pub proofs_size : (task : Task) (context : Context) (lists : List (List Atom)) (bodies : List Body)
    → AreProofs task context lists bodies → length lists ≤ sum_by size bodies
proofs_size task context lists bodies h =
    let count = proofs_count task context lists bodies h in
    let least = branches_count bodies in omega arith
