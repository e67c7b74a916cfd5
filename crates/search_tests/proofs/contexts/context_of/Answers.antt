use Rattle.std.proofs.Common.{rules, ◌≡◌, [], ◌∷◌, ◌++◌, arith}
use Rattle.kept_context.specs.Lent.{IsLine}
use Rattle.search_tests.proofs.Pairs.{two_each, two_length}
use Rattle.search_tests.proofs.contexts.context_of.Goals as goal

-- src/contexts.rt:67:1
pub returns-clause-lent : goal.returns-clause-lent
returns-clause-lent c =
    let is_one : c.push.new.self ≡ [] ++ c.in_ok-line_of.field-0 ∷ [] = search rules in
    let is_two : c.push-2.new.self ≡ c.push.new.self ++ c.in_ok-line_of-2.field-0 ∷ [] = search rules in
    let two = two_length c.in_ok-line_of.field-0 c.in_ok-line_of-2.field-0 c.push.new.self c.push-2.new.self is_one is_two in
    let value = c.start_elements.ensures.value in
    let few = c.start_elements.ensures.few in
    record {
      start = omega arith;
      few_elements = omega arith;
      few_lines = omega arith;
      lines = (two_each (IsLine c.args.task.now.tables c.start_elements.result) c.in_ok-line_of.field-0 c.in_ok-line_of-2.field-0 c.push.new.self c.push-2.new.self is_one is_two
          (c.in_ok-line_of.ensures.line c.start_elements.result) (c.in_ok-line_of-2.ensures.line c.start_elements.result)).1;
    }
