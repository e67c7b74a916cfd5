use Rattle.std.proofs.Common.{◌≡◌, map, sym, ◌∙◌, ap, subst}
use Rattle.proof_text.specs.Printing.{printed}
use Rattle.proof_text.specs.Proper.{IsProper}
use Rattle.proof_text.specs.ScriptOf.{body_of, script_of}
use Rattle.proof_text.proofs.ScriptProper.{script_proper}
use Rattle.proof_text.proofs.proof_script.script_in.Goals as goal

pub new-requires : goal.new-requires
new-requires c =
    let e = c.args.edition in
    let task = c.args.task.now in
    let take = c.in_ok-take.ensures ∙ ap (map (printed task)) (c.as_slice-2.ensures ∙ c.in_ok-parameters.ensures) in
    let body = c.in_ok-body.ensures.text ∙ (λ i. body_of e task (c.body.ensures.value i) (c.in_ok-context.ensures.value i)) in
    let script : record { version = c.number_of.result; take = c.in_ok-take.take; body = c.in_ok-body.body } ≡ script_of e task c.args.proof.now
    = λ i. record { version = c.number_of.ensures i; take = take i; body = body i } in
    let proves = c.requires in
    subst IsProper (sym script) (script_proper e task c.args.proof.now c.start_context.ensures.right c.body.ensures.bounded proves)
