use Rattle.std.proofs.Common.{rules, ◌≡◌, [], ◌∷◌, ◌++◌}
use Rattle.kept_context.specs.Lent.{AreFacts}
use Rattle.search_tests.proofs.Pairs.{two_each}
use Rattle.search_tests.proofs.contexts.two_cases.Goals as goal

-- src/contexts.rt:41:1
pub returns-clause-line : goal.returns-clause-line
returns-clause-line c = λ elements.
    let one : c.push.new.self ≡ [] ++ c.in_ok-one_fact.field-0 ∷ [] = search rules in
    let two : c.push-2.new.self ≡ c.push.new.self ++ c.in_ok-one_fact-2.field-0 ∷ [] = search rules in
    let first : AreFacts c.args.task.now.tables elements c.in_ok-one_fact.field-0 = c.in_ok-one_fact.ensures.facts elements in
    let second : AreFacts c.args.task.now.tables elements c.in_ok-one_fact-2.field-0 = c.in_ok-one_fact-2.ensures.facts elements in
    two_each (AreFacts c.args.task.now.tables elements) c.in_ok-one_fact.field-0 c.in_ok-one_fact-2.field-0 c.push.new.self c.push-2.new.self one two first second
