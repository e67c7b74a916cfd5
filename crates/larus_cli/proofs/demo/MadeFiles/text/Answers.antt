use Rattle.std.specs.FinMap as finite
use Rattle.std.proofs.Common.{rules, ◌≡◌, ◌∙◌, Some, ap, sym}
use Rattle.larus_cli.specs.Words.{demo_problem, demo_proof}
use Rattle.larus_cli.specs.OwnFiles.{two_held}
use Rattle.larus_cli.proofs.Making.{proof_held, problem_held}
use Rattle.larus_cli.proofs.demo.MadeFiles.text.Goals as goal

pub returns-then-eq : goal.returns-then-eq
returns-then-eq c =
    let problem = c.args.self.now.problem in
    let proof = c.args.self.now.proof in
    let name : c.args.name.now ≡ demo_proof = search rules in
    let text : c.as_slice.result.now ≡ proof = search rules in
    ap (finite.get (two_held problem proof)) name ∙ proof_held problem proof ∙ ap Some (sym text)

pub returns-then-eq-2 : goal.returns-then-eq-2
returns-then-eq-2 c =
    let problem = c.args.self.now.problem in
    let proof = c.args.self.now.proof in
    let name : c.args.name.now ≡ demo_problem = search rules in
    let text : c.as_slice-then-eq-2.result.now ≡ problem = search rules in
    ap (finite.get (two_held problem proof)) name ∙ problem_held problem proof ∙ ap Some (sym text)
