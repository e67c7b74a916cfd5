use Rattle.std.proofs.Common.{◌≡◌, false, get_or, rules}
use Rattle.clause_solver.specs.declared.literal.Literal.{Literal}
use Rattle.model_search.proofs.Sheets.{among_at}
use Rattle.model_search.proofs.sheet.is_among.Goals as goal

pub returns-then-other-literal-2 : goal.returns-then-other-literal-2
returns-then-other-literal-2 c = λ _.
    let other : Literal = record { variable = 0; positive = false } in
    let same : get_or c.args.literals.now c.loop-other.other-index other ≡ c.args.literal = search rules in
    among_at c.args.literal c.args.literals.now c.loop-other.other-index other c.loop-other-test.true same
