-- The text that is printed for a proof reads back as the same proof.
use Rattle.std.specs.Prelude.{IfOk}
use Rattle.std.proofs.Common.{◌≡◌, Result, Ok, Err, refl, subst}
use Rattle.text_core.specs.Names.{Text}
use Rattle.vernacular_tree.specs.Rules.{Proves}
use Rattle.vernacular_tree.specs.declared.tree.Body.{Body}
use Rattle.coherent_form.specs.Tasks.{CitedTask, proof_task}
use Rattle.proof_text.specs.declared.part.Edition.{Edition}
use Rattle.proof_text.specs.declared.part.Edition.TheVariants.{First}
use Rattle.proof_text.specs.ScriptOf.{script_of}
use Rattle.proof_text.specs.Scripts.{IsScriptOf}
use Rattle.proof_text.specs.StandsFor.{Stands}
use Rattle.proof_text.specs.Values.{Written}
use Rattle.isar_text.specs.Scripts.{IsIsarOf}
use Rattle.larus_cli.specs.Printed.{ReadsBackAs, ReadsBackInIsar}

-- a text that spells the script that stands for a proof reads back as this proof
pub read_back : {E : Type 0} (edition : Edition) (task : CitedTask) (body : Body) (script : Written) (result : Result Text E) →
    script ≡ script_of edition task body → Stands task (script_of edition task body) body → Proves (proof_task task) body →
    IfOk result (λ text. IsScriptOf text script) → IfOk result (λ text. ReadsBackAs edition text task body)
read_back edition task body script (Err e) is stands proves spells = tt
read_back edition task body script (Ok text) is stands proves spells = record {
  script = script_of edition task body;
  spells = subst (IsScriptOf text) is spells;
  version = refl;
  accepted = record { stands = stands; proves = proves };
}

-- so does its Isar text
pub isar_back : {E : Type 0} (task : CitedTask) (body : Body) (result : Result Text E) → Stands task (script_of First task body) body →
    Proves (proof_task task) body → IfOk result (λ text. IsIsarOf task text (script_of First task body)) →
    IfOk result (λ text. ReadsBackInIsar text task body)
isar_back task body (Err e) stands proves spells = tt
isar_back task body (Ok text) stands proves spells = record {
  script = script_of First task body;
  spells = spells;
  accepted = record { stands = stands; proves = proves };
}
