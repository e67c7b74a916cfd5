-- The smallest proof that is found.
use Rattle.std.proofs.Common.{◌≡◌, ◌≤◌, ℕ, List, sym, ap, subst, ◌∙◌, arith}
use Rattle.vernacular_tree.specs.Contexts.{start_context}
use Rattle.vernacular_tree.specs.Preorders.{preorder}
use Rattle.vernacular_tree.specs.Rules.{IsProof}
use Rattle.vernacular_tree.specs.Sizes.{size}
use Rattle.vernacular_tree.specs.declared.context.Context.{Context}
use Rattle.vernacular_tree.specs.declared.tree.Body.{Body}
use Rattle.vernacular_tree.specs.declared.tree.Node.{Node}
use Rattle.coherent_form.specs.Tasks.{CitedTask, proof_task}
use Rattle.trail_search.specs.Least.{LeastFrom}
use Rattle.larus_cli.specs.Smallest.{IsSmallest}

-- the proof that is kept where a least size is found is a smallest proof
pub smallest_found : (task searched : CitedTask) (context : Context) (n : ℕ) (nodes : List Node) (proof : Body) → searched ≡ task →
    context ≡ start_context (proof_task task) → ((a b : Body) → preorder a ≡ preorder b → a ≡ b) → LeastFrom (proof_task searched) context n →
    ((body : Body) × IsProof (proof_task searched) context body × (preorder body ≡ nodes) × (size body ≡ n)) → preorder proof ≡ nodes →
    IsSmallest task proof × (size proof ≡ n)
smallest_found task searched context n nodes proof same start faithful least kept is = (
  record {
    proves = subst (IsProof (proof_task task) (start_context (proof_task task))) one found.1;
    least = λ other proves. let more = fewest.least.least other proves in let given = fewest.size_is in omega (arith, sized);
  },
  sized,
)
  where
    fewest : LeastFrom (proof_task task) (start_context (proof_task task)) n
    fewest = subst (λ (k : CitedTask × Context). LeastFrom (proof_task k.0) k.1 n) (λ i. (same i, start i)) least

    found : (body : Body) × IsProof (proof_task task) (start_context (proof_task task)) body × (preorder body ≡ nodes) × (size body ≡ n)
    found = subst (λ (k : CitedTask × Context). (body : Body) × IsProof (proof_task k.0) k.1 body × (preorder body ≡ nodes) × (size body ≡ n))
        (λ i. (same i, start i)) kept

    one : found.0 ≡ proof
    one = faithful found.0 proof (found.2 ∙ sym is)

    sized : size proof ≡ n
    sized = ap size (sym one) ∙ found.3
