use Rattle.coherent_form.proofs.Deciding.{offends_told, readable_told, wide_told}
use Rattle.coherent_form.proofs.forms.check.Goals as goal

pub returns-in-Some-clause-err : goal.returns-in-Some-clause-err
returns-in-Some-clause-err c = offends_told c.args.formula.now c.account_of.result c.account_of.ensures c.in-Some.node c.in-Some.is

pub returns-in-None-clause-ok : goal.returns-in-None-clause-ok
returns-in-None-clause-ok c = readable_told c.args.formula.now c.account_of.result c.account_of.ensures c.requires.closed c.in-None.is (c.are_small.ensures.small c.if-are_small.true)

pub returns-in-None-2-clause-err : goal.returns-in-None-2-clause-err
returns-in-None-2-clause-err c = wide_told c.args.formula.now c.account_of.result c.account_of.ensures c.requires.closed c.in-None-2.is (c.are_small.ensures.large c.if-are_small.false)
