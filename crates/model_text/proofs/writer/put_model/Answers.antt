use Rattle.std.specs.Fmt.{decimal}
use Rattle.std.proofs.Common.{flat_map}
use Rattle.model_text.specs.Canonical.{place_text, fact_text}
use Rattle.model_text.proofs.ModelPieces.{put_order}
use Rattle.model_text.proofs.writer.put_model.Goals as goal

pub returns-clause-text : goal.returns-clause-text
returns-clause-text c =
    let m = c.args.model.now in
    rw (
      c.in_ok-put_facts.ensures.text,
      c.in_ok-put_places.ensures.text,
      c.in_ok-extend_from_slice-2.ensures.ok,
      c.in_ok-put_number.ensures,
      c.in_ok-extend_from_slice.ensures.ok,
      c.as_slice-2.ensures,
      c.facts.ensures,
      c.as_slice.ensures,
      c.places.ensures,
      c.size.ensures.value,
    )
    (put_order c.args.out.now (decimal m.size) (flat_map place_text m.places) (flat_map fact_text m.facts))
