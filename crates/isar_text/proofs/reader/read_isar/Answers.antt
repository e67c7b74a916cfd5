use Rattle.std.proofs.Common.{sym, subst}
use Rattle.isar_text.specs.Scripts.{IsIsarOf}
use Rattle.isar_text.proofs.IsarOrRefusal.{IsBehind, behind_fault, behind_script, behind_proper, exact_isar, handed_on}
use Rattle.isar_text.proofs.reader.read_isar.Goals as goal

pub returns-in_err-at : goal.returns-in_err-at
returns-in_err-at c =
    handed_on c.args.task.now c.args.bytes.now c.from_residual.result c.in_err-at.field-0.0 c.from_residual.ensures
    c.in_err-at.ensures.refused

pub returns-in_err-body : goal.returns-in_err-body
returns-in_err-body c =
    let behind : IsBehind c.args.task.now c.args.bytes.now c.in_ok-at.at c.in_ok-tokens.tokens c.in_ok-tokens.bad = record {
      head = c.in_ok-at.ensures.head;
      front = c.in_ok-at.ensures.front;
      task_is = c.in_ok-tokens.ensures.0;
      tokens_are = c.in_ok-tokens.ensures.1;
    } in
    handed_on c.args.task.now c.args.bytes.now c.from_residual-in_err-body.result c.in_err-body.field-0.0 c.from_residual-in_err-body.ensures
    (behind_fault c.args.task.now c.args.bytes.now c.in_ok-at.at c.in_ok-tokens.tokens c.in_ok-tokens.bad c.in_err-body.field-0.0 behind
    c.in_err-body.ensures.err)

pub script_with-requires : goal.script_with-requires
script_with-requires c =
    behind_proper c.args.task.now c.in_ok-tokens.tokens c.in_ok-tokens.bad c.in_ok-body.body c.in_ok-tokens.ensures.0 c.in_ok-body.ensures.ok

pub returns : goal.returns
returns c =
    let behind : IsBehind c.args.task.now c.args.bytes.now c.in_ok-at.at c.in_ok-tokens.tokens c.in_ok-tokens.bad = record {
      head = c.in_ok-at.ensures.head;
      front = c.in_ok-at.ensures.front;
      task_is = c.in_ok-tokens.ensures.0;
      tokens_are = c.in_ok-tokens.ensures.1;
    } in
    exact_isar c.args.task.now c.args.bytes.now c.in_ok-script_with.field-0
    (subst (IsIsarOf c.args.task.now c.args.bytes.now) (sym c.in_ok-script_with.ensures)
    (behind_script c.args.task.now c.args.bytes.now c.in_ok-at.at c.in_ok-tokens.tokens c.in_ok-tokens.bad c.in_ok-body.body behind
    c.in_ok-body.ensures.ok))
