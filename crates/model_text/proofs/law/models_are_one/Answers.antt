use Rattle.model_text.proofs.ModelOrRefusal.{models_same as told}
use Rattle.model_text.proofs.law.models_are_one.Goals as goal

pub returns : goal.returns
returns c = told
