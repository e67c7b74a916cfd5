use Rattle.model_search.proofs.sheet.Sheet.new.Goals as goal

pub returns : goal.returns
returns c = λ candidate sigma agrees. c.new-2.ensures sigma
