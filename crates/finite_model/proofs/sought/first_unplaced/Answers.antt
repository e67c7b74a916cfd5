use Rattle.std.specs.List.{AllByRecursion}
use Rattle.std.proofs.Common.{sym, subst, take}
use Rattle.text_core.proofs.Laws.{take_next, each_append}
use Rattle.finite_model.specs.Countermodels.{IsPlaced}
use Rattle.finite_model.proofs.Tables.{found_placed, not_placed, first_at}
use Rattle.finite_model.proofs.sought.first_unplaced.Goals as goal

pub loop-number-preserved : goal.loop-number-preserved
loop-number-preserved c =
    let constants = c.args.tables.now.constants in
    let name = c.constant_name.result.now in
    subst (AllByRecursion (IsPlaced c.args.lookup.now)) (sym (take_next constants c.loop-number.number name c.constant_name.ensures))
    (each_append (IsPlaced c.args.lookup.now) (take c.loop-number.number constants) _ c.loop-number.invariant
    (found_placed c.args.lookup.now.places name c.in-Some.field-0 (sym c.in-Some.ensures), tt))

pub returns-in_default-clause-some : goal.returns-in_default-clause-some
returns-in_default-clause-some c =
    let name = c.constant_name.result.now in
    first_at (IsPlaced c.args.lookup.now) (λ constant. IsPlaced c.args.lookup.now constant → ⊥) c.args.tables.now.constants c.loop-number.number
    name c.constant_name.ensures c.loop-number.invariant (not_placed c.args.lookup.now.places name (sym c.in_default.ensures))
