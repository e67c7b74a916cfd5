use Rattle.std.proofs.Common.{codes}
use Rattle.std.proofs.lemmas.Result.{on_ok_weaker}
use Rattle.proof_text.specs.declared.wording.Wording.TheVariants.{English}
use Rattle.proof_text.specs.Canonical.{cite_text, indent, line_end}
use Rattle.proof_text.specs.Lines.{line_text}
use Rattle.english_text.specs.Sentences.{names_behind}
use Rattle.english_text.proofs.Pushed.{eight_pushed}
use Rattle.english_text.proofs.sentence.put_mp.Goals as goal

pub returns : goal.returns
returns c =
    on_ok_weaker c.extend_from_slice-3.result
    (eight_pushed c.args.out.now c.put_indent.new.out c.extend_from_slice.new.self c.put_cite.new.out c.put_behind.new.out c.extend_from_slice-2.new.self
    c.put_line.new.out c.put_behind-2.new.out c.extend_from_slice-3.new.self (indent c.args.level) (codes "By ") (cite_text c.args.cite.now)
    (names_behind (codes " for ") c.args.args.now) (codes ", ") (line_text English c.args.shown.now) (names_behind (codes " for some ") c.args.fresh.now)
    line_end c.in_ok-put_indent.ensures c.in_ok-extend_from_slice.ensures.ok c.in_ok-put_cite.ensures.text c.in_ok-put_behind.ensures
    c.in_ok-extend_from_slice-2.ensures.ok c.in_ok-put_line.ensures.text c.in_ok-put_behind-2.ensures)
    c.extend_from_slice-3.ensures.ok
