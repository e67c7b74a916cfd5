use Rattle.model_text.proofs.ModelOrRefusal.{model_not_refused as told}
use Rattle.model_text.proofs.law.never_model_and_refusal.Goals as goal

pub returns : goal.returns
returns c = told
