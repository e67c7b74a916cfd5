use Rattle.std.proofs.Common.{◌≡◌, ◌∙◌, sym, ap, subst, slice_get, Some, List, ℕ}
use Rattle.logic_core.specs.declared.form.Atom.{Atom}
use Rattle.vernacular_tree.specs.Contexts.{atom_at}
use Rattle.proof_plans.specs.Scenes.{Reads}
use Rattle.proof_plans.proofs.Reading.{listed_reads}
use Rattle.proof_plans.proofs.scene.fact_at.Goals as goal

pub returns : goal.returns
returns c = λ constants task lent atoms variables atom right ok scene listed is.
    let list : c.in_ok-list_at.field-0.now ≡ atoms = c.in_ok-list_at.ensures task lent atoms variables scene listed in
    let here : Some c.in_ok-place_at.field-0.now ≡ Some atom
    = c.in_ok-place_at.ensures ∙ ap (λ (xs : List Atom). slice_get xs c.args.number) (c.as_slice.ensures ∙ list) ∙ is in
    let same : c.in_ok-place_at.field-0.now ≡ atom = cc in
    let reads = listed_reads constants task right lent ok c.args.of atoms variables atom c.args.number listed is in
    subst (λ (a : Atom). Reads a c.base_of.result (atom_at variables atom)) (sym same)
    (subst (λ (b : ℕ). Reads atom b (atom_at variables atom)) (sym c.base_of.ensures) reads)
