use Rattle.std.proofs.Common.{codes}
use Rattle.std.proofs.lemmas.Result.{on_ok_weaker}
use Rattle.proof_text.specs.declared.wording.Wording.TheVariants.{English}
use Rattle.proof_text.specs.Canonical.{indent, line_end}
use Rattle.proof_text.specs.Lines.{facts_text}
use Rattle.english_text.proofs.Pushed.{five_pushed}
use Rattle.english_text.proofs.sentence.put_answer.Goals as goal

pub returns : goal.returns
returns c =
    on_ok_weaker c.extend_from_slice-3.result
    (five_pushed c.args.out.now c.put_indent.new.out c.extend_from_slice.new.self c.put_facts.new.out c.extend_from_slice-2.new.self
    c.extend_from_slice-3.new.self (indent c.args.level) (codes "So ") (facts_text English c.args.facts.now) (codes ", which was to be shown") line_end
    c.in_ok-put_indent.ensures c.in_ok-extend_from_slice.ensures.ok c.in_ok-put_facts.ensures.text c.in_ok-extend_from_slice-2.ensures.ok)
    c.extend_from_slice-3.ensures.ok
