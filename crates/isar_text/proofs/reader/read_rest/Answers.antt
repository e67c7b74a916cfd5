use Rattle.std.proofs.Common.{sym, ◌∙◌, ap, subst}
use Rattle.proof_text.specs.declared.builder.ScriptBuilder.{ScriptBuilder}
use Rattle.isar_text.specs.Scripts.{AreBodyOf, RestFault}
use Rattle.isar_text.specs.declared.refusal.IsarRefusal.TheVariants.{Syntax}
use Rattle.std.proofs.Common.{inr}
use Rattle.isar_text.proofs.Faults.{accepted_fault, told_fault}
use Rattle.isar_text.proofs.Read.{body_read, exact_body, exact_rest_fault}
use Rattle.isar_text.proofs.reader.read_rest.Goals as goal

pub returns-in-None : goal.returns-in-None
returns-in-None c =
    let (value, spelled, built) = c.in-Ok.ensures.value in
    let of = body_read c.args.tokens.now value (_, c.in-Ok.ensures.text) spelled in
    let is = c.into_body-body.ensures ∙ ap (λ (b : ScriptBuilder). b.body) built in
    exact_body c.args.tokens.now c.args.end c.args.bad c.into_body-body.result (c.in-None.is, subst (AreBodyOf c.args.tokens.now) (sym is) of)

pub returns-in-Some : goal.returns-in-Some
returns-in-Some c =
    exact_rest_fault c.args.tokens.now c.args.end c.args.bad (Syntax c.in-Some.bad)
    (inr (subst (λ left. RestFault c.args.tokens.now c.args.end left (Syntax c.in-Some.bad)) (sym c.in-Some.is)
    (accepted_fault c.args.tokens.now c.args.end c.in-Some.bad (_, c.in-Ok.ensures.text))))

pub returns-in-Err : goal.returns-in-Err
returns-in-Err c =
    exact_rest_fault c.args.tokens.now c.args.end c.args.bad c.told.result
    (told_fault c.args.tokens.now c.args.end c.args.bad c.in-Err.refusal c.told.result (_, c.in-Err.ensures.refused) c.told.ensures)
