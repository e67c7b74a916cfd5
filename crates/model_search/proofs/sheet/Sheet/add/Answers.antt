use Rattle.std.proofs.Common.{◌∙◌}
use Rattle.std.proofs.lemmas.Result.{on_ok_weaker}
use Rattle.model_search.proofs.Sheets.{goes_more}
use Rattle.model_search.proofs.sheet.Sheet.add.Goals as goal

pub returns-clause-goes : goal.returns-clause-goes
returns-clause-goes c = on_ok_weaker c.push.result (goes_more c.args.self.now c.number.new.self c.push.new.self c.in_ok-variable.ensures.goes) c.push.ensures.goes

pub returns-clause-covers : goal.returns-clause-covers
returns-clause-covers c = on_ok_weaker c.push.result
    (λ covers candidate said. covers candidate (λ sigma agrees. c.in_ok-variable.ensures.means candidate sigma agrees ∙ said)) c.push.ensures.covers
