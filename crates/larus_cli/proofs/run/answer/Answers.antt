use Rattle.std.proofs.Common.{◌≡◌, true, false, Some, None, refl, rules, subst}
use Rattle.larus_cli.specs.Words.{command_of}
use Rattle.larus_cli.specs.Texts.{usage_text}
use Rattle.larus_cli.specs.Answers.{usage}
use Rattle.larus_cli.specs.Outcome.{IsReply, out_of_memory}
use Rattle.larus_cli.proofs.Outcomes.{to_output, to_errors}
use Rattle.larus_cli.proofs.run.answer.Goals as goal

pub returns-in_default-clause-outcome : goal.returns-in_default-clause-outcome
returns-in_default-clause-outcome g c =
    let none : command_of c.args.words.now ≡ None = search rules in
    to_errors _ _ _ usage_text 64 _ (usage none) c.put_answer.ensures

pub returns-then-reply-clause-outcome : goal.returns-then-reply-clause-outcome
returns-then-reply-clause-outcome g c =
    let good : c.in-Ok.reply.is_output ≡ true = search rules in
    let row = subst (λ output. IsReply c.args.words.now (g.F.Files.known c.args.files.now) (g.F.Files.known c.reply_to.new.files) output
    c.in-Ok.reply.text c.in-Ok.reply.status) good c.in-Ok.ensures.answer in
    to_output _ _ _ c.in-Ok.reply.text c.in-Ok.reply.status _ row (rw c.as_slice.ensures at c.put_answer-then-reply.ensures)

pub returns-in-Ok-clause-outcome : goal.returns-in-Ok-clause-outcome
returns-in-Ok-clause-outcome g c =
    let bad : c.in-Ok.reply.is_output ≡ false = search rules in
    let row = subst (λ output. IsReply c.args.words.now (g.F.Files.known c.args.files.now) (g.F.Files.known c.reply_to.new.files) output
    c.in-Ok.reply.text c.in-Ok.reply.status) bad c.in-Ok.ensures.answer in
    to_errors _ _ _ c.in-Ok.reply.text c.in-Ok.reply.status _ row (rw c.as_slice-else-reply.ensures at c.put_answer-else-reply.ensures)

pub returns-clause-outcome : goal.returns-clause-outcome
returns-clause-outcome g c =
    let is : command_of c.args.words.now ≡ Some c.in-Some.command = search rules in
    out_of_memory (λ none. cc) refl
