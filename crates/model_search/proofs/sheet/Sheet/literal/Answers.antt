use Rattle.std.proofs.Common.{◌∙◌}
use Rattle.model_search.proofs.Keys.{same_positive}
use Rattle.model_search.proofs.sheet.Sheet.literal.Goals as goal

pub returns-clause-means : goal.returns-clause-means
returns-clause-means c = λ candidate sigma agrees holds.
    c.in_ok-variable.ensures.means candidate sigma agrees ∙ same_positive _ _ holds
