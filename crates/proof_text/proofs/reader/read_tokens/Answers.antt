use Rattle.std.proofs.Common.{sym, ◌∙◌, ap, subst}
use Rattle.proof_text.specs.Effects.{script_in}
use Rattle.proof_text.specs.Proper.{IsProper}
use Rattle.proof_text.specs.Scripts.{AreScriptOf}
use Rattle.proof_text.proofs.Faults.{told_fault}
use Rattle.proof_text.proofs.Read.{script_read, script_proper, exact_script, exact_fault}
use Rattle.proof_text.proofs.reader.read_tokens.Goals as goal

pub into_script-requires : goal.into_script-requires
into_script-requires c =
    let (value, spelled, built) = c.in-Ok.ensures.value in
    let of = script_read c.args.tokens.now.tokens value (_, c.in-Ok.ensures.text) spelled in
    subst IsProper (sym (ap script_in built))
    (script_proper c.args.tokens.now.source c.args.tokens.now.tokens value c.source_len.ensures.tokens of)

pub returns-in-Ok : goal.returns-in-Ok
returns-in-Ok c =
    let (value, spelled, built) = c.in-Ok.ensures.value in
    let of = script_read c.args.tokens.now.tokens value (_, c.in-Ok.ensures.text) spelled in
    exact_script c.args.tokens.now c.into_script.result
    (subst (AreScriptOf c.args.tokens.now.tokens) (sym (c.into_script.ensures ∙ ap script_in built)) of)

pub returns-in-Err : goal.returns-in-Err
returns-in-Err c =
    exact_fault c.args.tokens.now c.told.result
    (told_fault c.args.tokens.now c.in-Err.refusal c.told.result (_, c.in-Err.ensures.refused) c.told.ensures)
