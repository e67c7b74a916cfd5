use Rattle.model_text.proofs.ModelOrRefusal.{model_is_sound as told}
use Rattle.model_text.proofs.law.models_are_sound.Goals as goal

pub returns : goal.returns
returns c = told
