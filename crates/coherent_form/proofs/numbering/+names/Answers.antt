use Rattle.coherent_form.specs.Reading.{with_names}
use Rattle.coherent_form.specs.Each.{with_names_of_each}
use Rattle.coherent_form.proofs.Names.{extends_more}
use Rattle.coherent_form.proofs.Opened.{with_names_of_each_more, named_ForAll, named_Exists, named_Binary}
use Rattle.coherent_form.proofs.Steps.{state_more}
use Rattle.coherent_form.proofs.numbering.+names.Goals as goal

pub enter_each-loop-member-preserved : goal.enter_each-loop-member-preserved
enter_each-loop-member-preserved t c = record {
  so_far = state_more (λ gs. with_names_of_each gs c.args.tables.now) (λ s g. with_names g s) (λ gs g. with_names_of_each_more gs g c.args.tables.now)
      c.args.members.now c.loop-member.member-index c.member-item.result
      c.loop-member-test.true c.member-item.is c.loop-member.tables c.enter.new.tables c.loop-member.invariant.so_far c.in_ok-enter.ensures.ok;
  extends = extends_more c.args.tables.now c.loop-member.tables c.enter.new.tables c.loop-member.invariant.extends c.enter.ensures.extends;
}

pub enter-returns-in_ok-enter-in-Binary-clause-ok : goal.enter-returns-in_ok-enter-in-Binary-clause-ok
enter-returns-in_ok-enter-in-Binary-clause-ok t c =
    named_Binary c.enter-in-Binary-2.result c.args.tables.now c.enter-in-Binary-2.new.tables c.args.formula.now c.in-Binary.left c.get-in-Binary.result.now c.in-Binary.field-0
    c.in-Binary.right c.get-in-Binary-2.result.now c.enter-in-Binary.new.tables c.in-Binary.is c.get-in-Binary.ensures c.get-in-Binary-2.ensures
    c.in_ok-enter-in-Binary.ensures.ok c.enter-in-Binary-2.ensures.ok

pub enter-returns-in-ForAll-clause-ok : goal.enter-returns-in-ForAll-clause-ok
enter-returns-in-ForAll-clause-ok t c =
    named_ForAll c.enter-in-ForAll.result c.args.tables.now c.enter-in-ForAll.new.tables c.args.formula.now c.in-ForAll.body c.get-in-ForAll.result.now
    c.in-ForAll.field-0 c.in-ForAll.is c.get-in-ForAll.ensures c.enter-in-ForAll.ensures.ok

pub enter-returns-in-Exists-clause-ok : goal.enter-returns-in-Exists-clause-ok
enter-returns-in-Exists-clause-ok t c =
    named_Exists c.enter-in-Exists.result c.args.tables.now c.enter-in-Exists.new.tables c.args.formula.now c.in-Exists.body c.get-in-Exists.result.now
    c.in-Exists.field-0 c.in-Exists.is c.get-in-Exists.ensures c.enter-in-Exists.ensures.ok
