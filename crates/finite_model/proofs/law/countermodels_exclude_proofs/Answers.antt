use Rattle.finite_model.specs.Structures.{finite}
use Rattle.finite_model.specs.Coded.{code}
use Rattle.finite_model.proofs.CodedStructures.{coded, coded_same}
use Rattle.finite_model.proofs.Refuted.{suits_refute, follows_same}
use Rattle.finite_model.proofs.law.countermodels_exclude_proofs.Goals as goal

pub returns : goal.returns
returns c = λ problem task m body allowed of sound counter proves.
    suits_refute (finite m) problem counter.suits
    (follows_same (coded (code m)) (finite m) problem (coded_same m sound)
    (c.proved_task_follows.ensures problem task body (code m) allowed of proves))
