use Rattle.std.proofs.Common.{◌≡◌, ap, sym, ◌∙◌, subst}
use Rattle.std.specs.Bool.{Decides}
use Rattle.vernacular_tree.specs.Contexts.{Stands}
use Rattle.fact_store.specs.Facts.{stands}
use Rattle.proof_checker.specs.Kept.{Kept, atom_seen, branch_of}
use Rattle.proof_checker.proofs.trail.Trail.holds.Goals as goal

pub returns : goal.returns
returns c task kept =
    let facts = ap (λ (k : Kept). k.facts) c.self.view_is in
    let told : c.holds.result ≡ stands c.signed_number.result c.as_slice.result.now c.self.inside.facts.facts = c.holds.ensures in
    subst (λ b. Decides b (Stands (branch_of c.args.self.now).context (atom_seen c.args.fact.now)))
    (sym (told ∙ (λ i. stands (c.signed_number.ensures i) (c.as_slice.ensures i) (facts i)))) (kept.facts c.args.fact.now)
