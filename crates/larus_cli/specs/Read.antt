-- What is read of the files that a command names.
use Rattle.std.specs.Prelude.{List, IfSome}
use Rattle.text_core.specs.declared.limits.TheConstants.{MOST_FILE_BYTES}
use Rattle.text_core.specs.Names.{Text}
use Rattle.logic_core.specs.declared.problem.Fof.{Fof}
use Rattle.vernacular_tree.specs.declared.tree.Body.{Body}
use Rattle.io_core.specs.Known.{Known}
use Rattle.io_core.specs.Fetched.{Holds}
use Rattle.include_flat.specs.Flattened.{IsFlat}
use Rattle.coherent_form.specs.Tasks.{CitedTask, IsTaskOf}
use Rattle.proof_text.specs.Values.{Written}
use Rattle.proof_text.specs.Scripts.{IsScriptOf, ProofFault}
use Rattle.isar_text.specs.Scripts.{IsIsarOf, IsarFault}
use Rattle.model_text.specs.Structures.{Finite}
use Rattle.model_text.specs.Texts.{IsModelOf}
use Rattle.proof_checker.specs.Accepted.{IsAcceptedAs}
use Rattle.larus_cli.specs.declared.command.Format.{Format}
use Rattle.larus_cli.specs.declared.command.Format.TheVariants as reads
use Rattle.larus_cli.specs.declared.report.ProofWhy.{ProofWhy}
use Rattle.larus_cli.specs.declared.report.ProofWhy.TheVariants.{Script, Isar}

-- the problem in this file, with the files that it includes, is flat with these formulas, where the
-- files tell what they hold
abbrev pub ReadsProblem : Known → Text → List Fof → Type 0
ReadsProblem files name formulas = IfSome files.held (λ held. IsFlat held name formulas)

-- the problem in this file has this task
pub record ReadsTask (files : Known) (name : Text) (task : CitedTask) : Type 0 where
  pub formulas : List Fof
  pub reads : ReadsProblem files name formulas
  pub has : IsTaskOf formulas task

-- the problem in this file has this task, and the second file has these bytes
pub record ReadsBytes (files : Known) (problem second : Text) (task : CitedTask) (bytes : Text)
    : Type 0 where
  pub reads : ReadsTask files problem task
  pub holds : Holds files second bytes MOST_FILE_BYTES

-- bytes spell this script: as a proof text, or as an Isar text of the task
abbrev pub Spells : Format → CitedTask → Text → Written → Type 0
Spells reads.Vernacular task bytes script = IsScriptOf bytes script
Spells reads.Isar task bytes script = IsIsarOf task bytes script

-- bytes spell no script, for this reason
abbrev pub SpellsNone : Format → CitedTask → Text → ProofWhy → Type 0
SpellsNone reads.Vernacular task bytes (Script refusal) = ProofFault bytes refusal
SpellsNone reads.Isar task bytes (Isar refusal) = IsarFault task bytes refusal
SpellsNone format task bytes why = ⊥

-- the problem in this file has this task, and the bytes of the second file, which is read in this
-- format, spell this script
pub record ReadsScript (format : Format) (files : Known) (problem second : Text) (task : CitedTask)
    (script : Written) : Type 0 where
  pub bytes : Text
  pub reads : ReadsBytes files problem second task bytes
  pub spells : Spells format task bytes script

-- besides, the script is accepted as this body, a proof of the task
pub record ReadsProof (format : Format) (files : Known) (problem second : Text) (task : CitedTask)
    (script : Written) (body : Body) : Type 0 where
  pub reads : ReadsScript format files problem second task script
  pub accepted : IsAcceptedAs task script body

-- the problem in this file has these formulas and this task, and the bytes of the second file spell
-- this structure
pub record ReadsModel (files : Known) (problem second : Text) (formulas : List Fof)
    (task : CitedTask) (m : Finite) : Type 0 where
  pub bytes : Text
  pub reads : ReadsProblem files problem formulas
  pub has : IsTaskOf formulas task
  pub holds : Holds files second bytes MOST_FILE_BYTES
  pub spells : IsModelOf bytes m
