use Rattle.std.proofs.Common.{◌≡◌, ◌∙◌, subst}
use Rattle.std.proofs.lemmas.Result.{on_ok_weaker}
use Rattle.model_search.specs.Sheets.{GoesIf, Implies}
use Rattle.model_search.proofs.Keys.{all_true}
use Rattle.model_search.proofs.Sheets.{goes_more, all_goes}
use Rattle.model_search.proofs.sheet.Sheet.add_all.Goals as goal

pub returns-clause-goes : goal.returns-clause-goes
returns-clause-goes c =
    let old = c.number.new.self in
    let new = c.imply_new.new.self in
    let same : c.as_slice-2.result.now ≡ c.args.grounds.items = c.as_slice-2.ensures.value ∙ c.in_ok-copies.ensures ∙ c.as_slice.ensures.value in
    let suited = subst (λ gs. GoesIf (Implies old c.in_ok-variable.variable gs) old new) same c.in_ok-imply_new.ensures.suited in
    on_ok_weaker c.push.result (goes_more c.args.self.now new c.push.new.self
    (all_goes c.args.self.now old new c.in_ok-variable.variable c.args.grounds.items c.in_ok-variable.ensures.goes c.in_ok-variable.ensures.means
    c.in_ok-imply_new.ensures.grows suited)) c.push.ensures.goes

pub returns-clause-covers : goal.returns-clause-covers
returns-clause-covers c = on_ok_weaker c.push.result
    (λ covers candidate holds. covers candidate (λ sigma agrees.
    c.in_ok-variable.ensures.means candidate sigma (c.in_ok-imply_new.ensures.grows.agrees candidate sigma agrees)
    ∙ all_true candidate c.args.grounds.items holds)) c.push.ensures.covers
