use Rattle.model_text.proofs.ModelOrRefusal.{model_or_refusal as told}
use Rattle.model_text.proofs.law.model_or_refusal.Goals as goal

pub returns : goal.returns
returns c = told
