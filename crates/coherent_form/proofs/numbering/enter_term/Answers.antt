use Rattle.logic_core.specs.declared.formula.Term.TheVariants.{Constant}
use Rattle.coherent_form.proofs.Names.{extends_by, with_term_extends}
use Rattle.coherent_form.proofs.numbering.enter_term.Goals as goal

pub returns-in_ok-constant-in-Constant-clause-extends : goal.returns-in_ok-constant-in-Constant-clause-extends
returns-in_ok-constant-in-Constant-clause-extends c =
    extends_by c.constant.result _ _ _ c.constant.ensures.ok c.constant.ensures.err (with_term_extends c.args.tables.now (Constant c.in-Constant.name))
