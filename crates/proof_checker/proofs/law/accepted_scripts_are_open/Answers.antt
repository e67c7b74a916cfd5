use Rattle.std.proofs.Common.{true}
use Rattle.proof_checker.proofs.Opening.{accepted_opens, rules_accepted}
use Rattle.proof_checker.proofs.law.accepted_scripts_are_open.Goals as goal

pub returns-clause-is_open : goal.returns-clause-is_open
returns-clause-is_open c task script body = accepted_opens task true script body

pub returns-clause-accepted : goal.returns-clause-accepted
returns-clause-accepted c task script body = rules_accepted task true script body
