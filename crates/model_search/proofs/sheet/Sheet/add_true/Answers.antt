use Rattle.std.proofs.lemmas.Result.{on_ok_weaker}
use Rattle.model_search.proofs.Sheets.{goes_more}
use Rattle.model_search.proofs.sheet.Sheet.add_true.Goals as goal

pub returns-clause-goes : goal.returns-clause-goes
returns-clause-goes c = on_ok_weaker c.push.result (goes_more c.args.self.now c.literal.new.self c.push.new.self c.in_ok-literal.ensures.goes) c.push.ensures.goes

pub returns-clause-covers : goal.returns-clause-covers
returns-clause-covers c = on_ok_weaker c.push.result
    (λ covers candidate holds. covers candidate (λ sigma agrees. c.in_ok-literal.ensures.means candidate sigma agrees holds)) c.push.ensures.covers
