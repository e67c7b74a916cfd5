use Rattle.std.proofs.Common.{sym, ap, ◌∙◌, subst}
use Rattle.clause_solver.specs.Clauses.{IsClauseTrue, Suits}
use Rattle.model_search.specs.Sheets.{Drawn}
use Rattle.model_search.proofs.Sheets.{finished, whichever}
use Rattle.model_search.proofs.sheet.Sheet.finish.Goals as goal

pub returns : goal.returns
returns c =
    let new : Drawn = record { keys = c.self.inside.keys.keys; kept = c.add.new.self; literals = c.self.inside.literals.items; is_true = c.self.inside.is_true } in
    whichever c.add.result (finished c.args.self.now new (ap (λ s. s.keys) c.self.view_is) (ap (λ s. s.is_true) (sym c.self.view_is) ∙ c.if-self.false)
    (λ sigma suits holds. c.add.ensures.kept sigma (subst (λ s. Suits sigma s.kept) (sym c.self.view_is) suits)
    (subst (IsClauseTrue sigma) (ap (λ s. s.literals) (sym c.self.view_is) ∙ sym c.as_slice.ensures.value) holds)))
