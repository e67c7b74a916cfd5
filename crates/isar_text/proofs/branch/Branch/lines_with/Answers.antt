use Rattle.isar_text.proofs.StepsTold.{next_with, others_left}
use Rattle.std.proofs.Common.{◌<◌, ◌^◌}
use Rattle.logic_core.specs.declared.form.Atom.{Atom}
use Rattle.instance_cursor.specs.Facts.{signed_number}
use Rattle.isar_text.proofs.branch.Branch.lines_with.Goals as goal

pub loop-atom-preserved : goal.loop-atom-preserved
loop-atom-preserved c =
    let context = c.args.self.now.context in record {
      lines = next_with context c.args.elements.now c.args.atoms.now c.loop-atom.atom-index c.atom-item.result c.loop-atom-test.true c.atom-item.is
          c.loop-atom.lines c.push.new.self c.in_ok-first.field-0 (c.in_ok-first.ensures context.lines c.requires.first) c.in_ok-push.ensures.ok
          c.loop-atom.invariant.lines;
      others = others_left (λ (atom : Atom). signed_number atom < 2 ^ 32) c.args.atoms.now c.loop-atom.atom-index c.atom-item.result c.loop-atom-test.true
          c.atom-item.is c.loop-atom.invariant.others;
    }
