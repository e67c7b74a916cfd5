-- What was put where a conversion ends with 0.
use Rattle.std.specs.Prelude.{◌≡◌, List, IfSome, map}
use Rattle.text_core.specs.Names.{Text}
use Rattle.logic_core.specs.declared.problem.Fof.{Fof}
use Rattle.logic_core.specs.declared.problem.Item.TheVariants.{Fof as ItemFof}
use Rattle.vernacular_tree.specs.declared.tree.Body.{Body}
use Rattle.io_core.specs.Known.{Known}
use Rattle.io_core.specs.Stream.{Stream, Puts}
use Rattle.tptp_lexer.specs.Tokens.{Token, AreTokens}
use Rattle.tptp_grammar.specs.Spells.{AreItemsOf}
use Rattle.include_flat.specs.Flattened.{IsFlat}
use Rattle.coherent_form.specs.Tasks.{CitedTask}
use Rattle.proof_text.specs.declared.part.Edition.{Edition}
use Rattle.proof_text.specs.Canonical.{script_text}
use Rattle.proof_text.specs.Proper.{version_number}
use Rattle.proof_text.specs.ScriptOf.{script_of}
use Rattle.proof_text.specs.Scripts.{IsScriptOf}
use Rattle.proof_text.specs.Values.{Written}
use Rattle.proof_checker.specs.Accepted.{IsAcceptedAs}
use Rattle.isar_text.specs.Scripts.{IsIsarOf}
use Rattle.larus_cli.specs.declared.command.Format.{Format}
use Rattle.larus_cli.specs.declared.command.Format.TheVariants.{Vernacular}
use Rattle.larus_cli.specs.Read.{ReadsProof}

-- the text has tokens, which are a text of these formulas
abbrev pub ReadsBack : Text → List Fof → Type 0
ReadsBack text formulas =
    (ts : List Token) × AreTokens text ts × AreItemsOf ts (map ItemFof formulas)

-- what was put is a text that reads back as the formulas of the problem
abbrev pub ProblemPrinted : Known → Text → Stream → Stream → Type 0
ProblemPrinted files problem old new = IfSome files.held (λ held.
    (formulas : List Fof) × IsFlat held problem formulas ×
    ((text : Text) × Puts old new text × ReadsBack text formulas))

-- the text spells a script of this version, which is accepted as the body
pub record ReadsBackAs (edition : Edition) (text : Text) (task : CitedTask) (body : Body)
    : Type 0 where
  pub script : Written
  pub spells : IsScriptOf text script
  pub version : script.version ≡ version_number edition
  pub accepted : IsAcceptedAs task script body

-- what was put is the canonical text, of this version, of the body that the script of the second
-- file, read in this format, is accepted as; it reads back as a script that is accepted as the same
pub record ProofPrinted (format : Format) (edition : Edition) (files : Known)
    (problem proof : Text) (old new : Stream) : Type 0 where
  pub task : CitedTask
  pub script : Written
  pub body : Body
  pub reads : ReadsProof format files problem proof task script body
  pub text : Text
  pub puts : Puts old new text
  pub text_is : text ≡ script_text (script_of edition task body)
  pub back : ReadsBackAs edition text task body

-- the text is one in Isar of a script that is accepted as the body
pub record ReadsBackInIsar (text : Text) (task : CitedTask) (body : Body) : Type 0 where
  pub script : Written
  pub spells : IsIsarOf task text script
  pub accepted : IsAcceptedAs task script body

-- what was put is a text in Isar of a script that is accepted as the body that the script of the
-- second file is accepted as
pub record IsarPrinted (files : Known) (problem proof : Text) (old new : Stream) : Type 0 where
  pub task : CitedTask
  pub script : Written
  pub body : Body
  pub reads : ReadsProof Vernacular files problem proof task script body
  pub text : Text
  pub puts : Puts old new text
  pub back : ReadsBackInIsar text task body
