use Rattle.std.proofs.Common.{refl, ap, sym, subst}
use Rattle.clause_solver.specs.Clauses.{Suits}
use Rattle.model_search.specs.Sheets.{Drawn}
use Rattle.model_search.proofs.Sheets.{implied_grows, implied_suited, whichever}
use Rattle.model_search.proofs.sheet.Sheet.imply.Goals as goal

pub returns-clause-grows : goal.returns-clause-grows
returns-clause-grows c = whichever c.add.result
    (implied_grows c.args.self.now c.literal.new.self _ c.in_ok-literal.ensures.goes (ap (λ s. s.keys) c.self.view_is)
    (ap (λ s. s.literals) c.self.view_is) (ap (λ s. s.is_true) c.self.view_is))

pub returns-clause-suited : goal.returns-clause-suited
returns-clause-suited c =
    let new : Drawn = record { keys = c.self.inside.keys.keys; kept = c.add.new.self; literals = c.self.inside.literals.items; is_true = c.self.inside.is_true } in
    whichever c.add.result
    (implied_suited c.args.self.now c.literal.new.self new c.args.variable c.args.fact _ c.in_ok-literal.literal c.in_ok-literal.ensures.goes
    (ap (λ s. s.keys) c.self.view_is) refl refl c.in_ok-literal.ensures.means (λ sigma suits. c.add.ensures.kept sigma (subst (λ s. Suits sigma s.kept) (sym c.self.view_is) suits)))
