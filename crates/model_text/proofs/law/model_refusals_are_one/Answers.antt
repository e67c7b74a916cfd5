use Rattle.model_text.proofs.ModelOrRefusal.{refusals_same as told}
use Rattle.model_text.proofs.law.model_refusals_are_one.Goals as goal

pub returns : goal.returns
returns c = told
