-- The answers with status 0, which go to the output.
use Rattle.std.specs.Prelude.{ℕ, ◌≡◌, ◌≤◌, List}
use Rattle.text_core.specs.Names.{Text}
use Rattle.logic_core.specs.declared.problem.Fof.{Fof}
use Rattle.vernacular_tree.specs.declared.tree.Body.{Body}
use Rattle.vernacular_tree.specs.Sizes.{size}
use Rattle.io_core.specs.Known.{Known}
use Rattle.tptp_printer.specs.Canonical.{problem_text}
use Rattle.coherent_form.specs.Tasks.{CitedTask, IsTaskOf}
use Rattle.proof_text.specs.declared.part.Edition.TheVariants.{First}
use Rattle.proof_text.specs.Canonical.{script_text}
use Rattle.proof_text.specs.ScriptOf.{script_of}
use Rattle.proof_text.specs.Values.{Written}
use Rattle.isar_text.specs.Bodies.{isar_proof}
use Rattle.english_text.specs.English.{english_text}
use Rattle.model_text.specs.Canonical.{model_text}
use Rattle.model_text.specs.Structures.{Finite}
use Rattle.model_text.specs.Texts.{IsModelOf}
use Rattle.finite_model.specs.Countermodels.{IsCountermodel}
use Rattle.larus_cli.specs.declared.command.Format.{Format}
use Rattle.larus_cli.specs.declared.command.Wanted.{Wanted}
use Rattle.larus_cli.specs.declared.command.Wanted.TheVariants.{Size, Script, Isar, English, Demo}
use Rattle.larus_cli.specs.Texts.{accepted_text, demo_text, countermodel_text}
use Rattle.larus_cli.specs.Words.{to_print, to_prove, to_judge, to_refute, to_confirm, Asks}
use Rattle.larus_cli.specs.Smallest.{IsSmallest}
use Rattle.larus_cli.specs.LeastModel.{IsLeastModel}
use Rattle.larus_cli.specs.Read.{ReadsProblem, ReadsTask, ReadsProof, ReadsModel}
use Rattle.larus_cli.specs.Printed.{ReadsBack, ReadsBackAs, ReadsBackInIsar}

-- what is printed for an accepted proof: its size; the canonical text, of a version, of the script
-- that stands for it with printed names; its Isar or English text; or the line of a demonstration
abbrev pub told : Wanted → CitedTask → Body → Text
told Size task body = accepted_text (size body)
told (Script edition) task body = script_text (script_of edition task body)
told Isar task body = isar_proof task body
told English task body = english_text task body
told (Demo k problem proof) task body = demo_text k problem proof (size body)

-- where a script or an Isar text is printed, it reads back as a script that is accepted as the same
-- body
abbrev pub KeepsProof : Wanted → Text → CitedTask → Body → Type 0
KeepsProof (Script edition) text task body = ReadsBackAs edition text task body
KeepsProof Isar text task body = ReadsBackInIsar text task body
KeepsProof _ text task body = Unit {0}

-- the text is what is printed, with status 0, for words that ask for it
pub data Done (words : List Text) (files : Known) : Text → Type 0 where
  -- the script in the second file is accepted as a body, a proof of the problem's task
  judged : (wanted : Wanted) (format : Format) (problem second text : Text) (task : CitedTask)
      (script : Written) (body : Body) → Asks words problem (to_judge wanted format second) →
      ReadsProof format files problem second task script body →
      text ≡ told wanted task body → KeepsProof wanted text task body → Done words files text
  -- the text is the canonical one, of version 1, of the script that stands for a smallest proof of
  -- the problem's task with printed names, within the bound; it reads back as a script that is
  -- accepted as the same body
  proved : (problem text : Text) (most : ℕ) (task : CitedTask) (body : Body) →
      Asks words problem (to_prove most) → ReadsTask files problem task →
      IsSmallest task body → size body ≤ most →
      text ≡ script_text (script_of First task body) → ReadsBackAs First text task body →
      Done words files text
  -- the text is the canonical one of the problem, and reads back as its formulas
  converted : (problem text : Text) (formulas : List Fof) → Asks words problem to_print →
      ReadsProblem files problem formulas → text ≡ problem_text formulas → ReadsBack text formulas →
      Done words files text
  -- the text is the canonical one of a countermodel of the problem with the fewest elements, at
  -- most so many, and spells it
  refuted : (problem text : Text) (size : ℕ) (formulas : List Fof) (task : CitedTask) (m : Finite) →
      Asks words problem (to_refute size) → ReadsProblem files problem formulas →
      IsTaskOf formulas task → IsLeastModel formulas task size m → text ≡ model_text m →
      IsModelOf text m → Done words files text
  -- the structure in the second file is a countermodel of the problem
  confirmed : (problem second text : Text) (formulas : List Fof) (task : CitedTask) (m : Finite) →
      Asks words problem (to_confirm second) →
      ReadsModel files problem second formulas task m →
      IsCountermodel task.tables.constants formulas m → text ≡ countermodel_text m.size →
      Done words files text
