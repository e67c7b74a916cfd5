use Rattle.proof_checker.proofs.Sized.{accepted_large}
use Rattle.proof_checker.proofs.law.accepted_bodies_are_as_large.Goals as goal

pub returns-clause-size : goal.returns-clause-size
returns-clause-size c task script body accepted = (accepted_large task script body accepted).0

pub returns-clause-nesting : goal.returns-clause-nesting
returns-clause-nesting c task script body accepted = (accepted_large task script body accepted).1
