use Rattle.std.specs.Fmt.{decimal}
use Rattle.proof_text.specs.Canonical.{body_text}
use Rattle.proof_text.specs.Lines.{names_text}
use Rattle.proof_text.proofs.Opened.{script_order}
use Rattle.proof_text.proofs.writer.put_script.Goals as goal

pub returns-clause-text : goal.returns-clause-text
returns-clause-text c =
    let script = c.args.script.now in
    rw (
      c.in_ok-put_body.ensures.text,
      c.in_ok-extend_from_slice-3.ensures.ok,
      c.in_ok-put_names.ensures.text,
      c.in_ok-extend_from_slice-2.ensures.ok,
      c.in_ok-put_number.ensures.text,
      c.in_ok-extend_from_slice.ensures.ok,
      c.take.ensures,
      c.body.ensures.value,
      c.version.ensures.value,
    )
    (script_order c.args.out.now (decimal script.version) (names_text script.take) (body_text 0 script.body))
