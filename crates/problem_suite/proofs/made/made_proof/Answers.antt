use Rattle.std.proofs.Common.{◌≡◌, rules}
use Rattle.problem_suite.specs.MadeTexts.{made_proof_text}
use Rattle.problem_suite.proofs.Lengths.{proof_fits}
use Rattle.problem_suite.proofs.made.made_proof.Goals as goal

pub returns-clause-fits : goal.returns-clause-fits
returns-clause-fits c = let same : c.extend_from_slice.new.self ≡ made_proof_text c.args.implications = search rules in proof_fits c.args.implications c.extend_from_slice.new.self c.requires.most same
