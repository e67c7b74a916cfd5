-- What a planner says of proofs.
use Rattle.std.specs.Prelude.{ℕ, ◌≤◌}
use Rattle.vernacular_tree.specs.Contexts.{Task}
use Rattle.vernacular_tree.specs.Rules.{IsProof}
use Rattle.vernacular_tree.specs.Sizes.{size}
use Rattle.vernacular_tree.specs.declared.context.Context.{Context}
use Rattle.vernacular_tree.specs.declared.tree.Body.{Body}
use Rattle.proof_plans.specs.declared.planner.Verdict as Verdict
use Rattle.proof_plans.specs.declared.planner.Verdict.TheVariants as verdict

-- no body is a proof from the context, none with so many rule applications is, or nothing is said
abbrev pub IsVerdict : Task → Context → ℕ → Verdict.Verdict → Type 0
IsVerdict task lent most verdict.Never = (body : Body) → IsProof task lent body → ⊥
IsVerdict task lent most verdict.NotWithin = (body : Body) → IsProof task lent body
    → size body ≤ most → ⊥
IsVerdict task lent most verdict.Perhaps = Unit {0}
