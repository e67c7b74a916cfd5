-- What follows where a countermodel is confirmed.
use Rattle.std.specs.Prelude.{List, IfSome}
use Rattle.text_core.specs.Names.{Text}
use Rattle.logic_core.specs.declared.problem.Fof.{Fof}
use Rattle.vernacular_tree.specs.Rules.{Proves}
use Rattle.vernacular_tree.specs.declared.tree.Body.{Body}
use Rattle.io_core.specs.Known.{Known}
use Rattle.include_flat.specs.Flattened.{IsFlat}
use Rattle.coherent_form.specs.Tasks.{CitedTask, IsTaskOf, proof_task}

-- no body of any size is a proof of the task
abbrev pub HasNoBody : CitedTask → Type 0
HasNoBody task = (body : Body) → Proves (proof_task task) body → ⊥

-- the problem has a task, and no body of any size is a proof of it
abbrev pub ProblemRefuted : Known → Text → Type 0
ProblemRefuted files problem = IfSome files.held (λ held. (formulas : List Fof) ×
    IsFlat held problem formulas ×
    ((task : CitedTask) × IsTaskOf formulas task × HasNoBody task))
