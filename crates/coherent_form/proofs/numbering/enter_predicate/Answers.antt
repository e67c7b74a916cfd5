use Rattle.coherent_form.proofs.Names.{extends_by, with_predicate_extends}
use Rattle.coherent_form.proofs.numbering.enter_predicate.Goals as goal

pub returns-clause-extends : goal.returns-clause-extends
returns-clause-extends c = extends_by c.symbol.result _ _ _ c.symbol.ensures.ok c.symbol.ensures.err (with_predicate_extends c.args.tables.now _ _)
