-- Bytes of a second file spell one script in a format, have one refusal there, and never both.
use Rattle.std.proofs.Common.{◌≡◌, ap}
use Rattle.text_core.specs.Names.{Text}
use Rattle.coherent_form.specs.Tasks.{CitedTask}
use Rattle.proof_text.specs.Values.{Written}
use Rattle.proof_text.proofs.Laws.{scripts_same, refusals_same, script_not_refused}
use Rattle.isar_text.proofs.IsarOrRefusal.{isar_same, isar_refusals_same, isar_not_refused}
use Rattle.larus_cli.specs.declared.command.Format.{Format}
use Rattle.larus_cli.specs.declared.command.Format.TheVariants as reads
use Rattle.larus_cli.specs.declared.report.ProofWhy.{ProofWhy}
use Rattle.larus_cli.specs.declared.report.ProofWhy.TheVariants.{FileTooLong, Script, Isar}
use Rattle.larus_cli.specs.Read.{Spells, SpellsNone}

-- bytes spell one script
pub spelled_same : (format : Format) (task : CitedTask) (bytes : Text) (a b : Written) → Spells format task bytes a → Spells format task bytes b → a ≡ b
spelled_same reads.Vernacular task bytes a b is also = scripts_same bytes a b is also
spelled_same reads.Isar task bytes a b is also = isar_same task bytes a b is also

-- bytes have one refusal
pub reasons_same : (format : Format) (task : CitedTask) (bytes : Text) (a b : ProofWhy) → SpellsNone format task bytes a →
    SpellsNone format task bytes b → a ≡ b
reasons_same reads.Vernacular task bytes (Script a) (Script b) is also = ap Script (refusals_same bytes a b is also)
reasons_same reads.Vernacular task bytes (Script a) FileTooLong is also = absurd also
reasons_same reads.Vernacular task bytes (Script a) (Isar b) is also = absurd also
reasons_same reads.Vernacular task bytes FileTooLong b is also = absurd is
reasons_same reads.Vernacular task bytes (Isar a) b is also = absurd is
reasons_same reads.Isar task bytes (Isar a) (Isar b) is also = ap Isar (isar_refusals_same task bytes a b is also)
reasons_same reads.Isar task bytes (Isar a) FileTooLong is also = absurd also
reasons_same reads.Isar task bytes (Isar a) (Script b) is also = absurd also
reasons_same reads.Isar task bytes FileTooLong b is also = absurd is
reasons_same reads.Isar task bytes (Script a) b is also = absurd is

-- bytes that spell a script are not refused
pub spelled_never : (format : Format) (task : CitedTask) (bytes : Text) (script : Written) (why : ProofWhy) → Spells format task bytes script →
    SpellsNone format task bytes why → ⊥
spelled_never reads.Vernacular task bytes script (Script refusal) is fault = script_not_refused bytes script refusal is fault
spelled_never reads.Vernacular task bytes script FileTooLong is fault = fault
spelled_never reads.Vernacular task bytes script (Isar refusal) is fault = fault
spelled_never reads.Isar task bytes script (Isar refusal) is fault = isar_not_refused task bytes script refusal is fault
spelled_never reads.Isar task bytes script FileTooLong is fault = fault
spelled_never reads.Isar task bytes script (Script refusal) is fault = fault
