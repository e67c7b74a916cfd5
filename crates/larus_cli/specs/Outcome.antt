-- How a run of the program ends.
use Rattle.std.specs.Prelude.{ℕ, ◌≡◌, ◌≢◌, Bool, true, false, List, None}
use Rattle.text_core.specs.Names.{Text}
use Rattle.logic_core.specs.declared.problem.Fof.{Fof}
use Rattle.vernacular_tree.specs.declared.tree.Body.{Body}
use Rattle.io_core.specs.Known.{Known}
use Rattle.io_core.specs.Stream.{Stream, Puts, Breaks}
use Rattle.coherent_form.specs.Tasks.{CitedTask}
use Rattle.proof_text.specs.declared.part.Edition.TheVariants.{First}
use Rattle.proof_text.specs.Canonical.{script_text}
use Rattle.proof_text.specs.ScriptOf.{script_of}
use Rattle.model_text.specs.Canonical.{model_text}
use Rattle.model_text.specs.Structures.{Finite}
use Rattle.larus_cli.specs.Words.{command_of, to_prove, to_refute, Asks}
use Rattle.larus_cli.specs.OwnFiles.{looked_at}
use Rattle.larus_cli.specs.Smallest.{IsSmallest}
use Rattle.larus_cli.specs.LeastModel.{IsLeastModel}
use Rattle.larus_cli.specs.Answers.{Answer}

-- the output and the errors at a moment
pub record Sinks : Type 0 where
  pub out : Stream
  pub errs : Stream

abbrev pub sinks : Stream → Stream → Sinks
sinks out errs = record { out = out; errs = errs }

-- the whole text was put to one sink, and the other is as before
abbrev pub PutsTo : Bool → Sinks → Sinks → Text → Type 0
PutsTo true old new text = Puts old.out new.out text × (new.errs ≡ old.errs)
PutsTo false old new text = Puts old.errs new.errs text × (new.out ≡ old.out)

-- a part of the text was put to one sink, which then failed, and the other is as before
abbrev pub BreaksAt : Bool → Sinks → Sinks → Text → Type 0
BreaksAt true old new text = Breaks old.out new.out text × (new.errs ≡ old.errs)
BreaksAt false old new text = Breaks old.errs new.errs text × (new.out ≡ old.out)

-- the answer, by the files at which the words look
abbrev pub IsReply : List Text → Known → Known → Bool → Text → ℕ → Type 0
IsReply words files later output text status =
    Answer words (looked_at words files) (looked_at words later) output text status

pub data Outcome (words : List Text) (files later : Known) (old new : Sinks) : ℕ → Type 0 where
  -- an answer was put whole
  answered : (output : Bool) (text : Text) (status : ℕ) →
      IsReply words files later output text status → PutsTo output old new text →
      Outcome words files later old new status
  -- 74: the sink of an answer failed
  broken : (output : Bool) (text : Text) (status : ℕ) →
      IsReply words files later output text status → BreaksAt output old new text →
      Outcome words files later old new 74
  -- 71: want of memory; nothing was written
  out_of_memory : command_of words ≢ None → new ≡ old → Outcome words files later old new 71

-- the outside did all that was asked for, and memory sufficed
pub record IsSettled (status : ℕ) : Type 0 where
  pub fetched : status ≢ 66
  pub room : status ≢ 71
  pub put : status ≢ 74

-- what two runs with the same words put: one text, or where a proof is sought, the texts of two
-- smallest proofs of one task, and where a countermodel is, those of two least ones of one problem
pub data Alike (words : List Text) : Text → Text → Type 0 where
  one_text : (text : Text) → Alike words text text
  two_smallest : (problem : Text) (most : ℕ) (task : CitedTask) (body other : Body) →
      Asks words problem (to_prove most) → IsSmallest task body → IsSmallest task other →
      Alike words (script_text (script_of First task body)) (script_text (script_of First task other))
  two_least : (problem : Text) (size : ℕ) (formulas : List Fof) (task : CitedTask) (m n : Finite) →
      Asks words problem (to_refute size) → IsLeastModel formulas task size m →
      IsLeastModel formulas task size n → Alike words (model_text m) (model_text n)

-- two runs with the same words put alike texts to the same sink, with one status
pub record EndAlike (words : List Text) (old new before after : Sinks) (status other : ℕ)
    : Type 0 where
  pub output : Bool
  pub text : Text
  pub another : Text
  pub first : PutsTo output old new text
  pub second : PutsTo output before after another
  pub alike : Alike words text another
  pub same : status ≡ other
