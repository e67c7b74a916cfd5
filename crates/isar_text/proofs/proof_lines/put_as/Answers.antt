use Rattle.std.proofs.Common.{codes}
use Rattle.std.proofs.lemmas.Result.{on_ok_weaker}
use Rattle.std.specs.Fmt.{decimal}
use Rattle.isar_text.specs.Bodies.{by_blast, names_text, thesis_text, used_text}
use Rattle.isar_text.proofs.LinesPut.{as_put}
use Rattle.isar_text.proofs.proof_lines.put_as.Goals as goal

pub returns-clause-text : goal.returns-clause-text
returns-clause-text c =
    on_ok_weaker c.extend_from_slice-2.result
    (as_put c.args.out.now (thesis_text c.args.level) (used_text c.args.used.now) (codes " (* as ") (decimal c.args.disjunct) (codes " ") (names_text c.args.names.now)
    (codes " *)") by_blast c.put_thesis.new.out c.put_used.new.out c.extend_from_slice.new.self c.put_number.new.out c.push.new.self c.put_names.new.out
    c.extend_from_slice-2.new.self c.in_ok-put_thesis.ensures c.in_ok-put_used.ensures c.in_ok-extend_from_slice.ensures.ok c.in_ok-put_number.ensures.text
    c.in_ok-push.ensures.ok c.in_ok-put_names.ensures)
    c.extend_from_slice-2.ensures.ok
