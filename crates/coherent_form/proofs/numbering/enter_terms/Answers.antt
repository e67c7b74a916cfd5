use Rattle.coherent_form.specs.Reading.{with_term, with_terms}
use Rattle.coherent_form.proofs.Names.{extends_more}
use Rattle.coherent_form.proofs.Opened.{with_terms_more}
use Rattle.coherent_form.proofs.Steps.{state_more}
use Rattle.coherent_form.proofs.numbering.enter_terms.Goals as goal

pub loop-term-preserved : goal.loop-term-preserved
loop-term-preserved c = record {
  so_far = state_more (with_terms c.args.tables.now) with_term (λ ts t. with_terms_more ts t c.args.tables.now) c.args.terms.now c.loop-term.term-index c.term-item.result
      c.loop-term-test.true c.term-item.is c.loop-term.tables c.enter_term.new.tables c.loop-term.invariant.so_far c.in_ok-enter_term.ensures.ok;
  extends = extends_more c.args.tables.now c.loop-term.tables c.enter_term.new.tables c.loop-term.invariant.extends c.enter_term.ensures.extends;
}
