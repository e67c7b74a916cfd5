use Rattle.std.proofs.Common.{◌∙◌, refl, sym, subst}
use Rattle.model_search.specs.Keys.{Agrees}
use Rattle.model_search.proofs.Keys.{agrees_inserted, said_same}
use Rattle.model_search.proofs.Sheets.{goes_keys}
use Rattle.model_search.proofs.sheet.Sheet.number.Goals as goal

pub returns-clause-goes : goal.returns-clause-goes
returns-clause-goes c = rw (← c.self.view_is) (goes_keys _ _ refl refl refl (λ candidate sigma agrees.
    agrees_inserted sigma candidate _ c.self.inside.keys.keys c.args.key (subst (Agrees sigma candidate) c.in_ok-number.ensures.keys agrees)))

pub returns-clause-means : goal.returns-clause-means
returns-clause-means c = λ candidate sigma agrees.
    let (key, at, same) = c.in_ok-number.ensures.stored in
    agrees c.in_ok-number.number key at ∙ sym (said_same candidate c.args.key key same)
