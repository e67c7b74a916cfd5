use Rattle.std.proofs.Common.{◌∙◌, ap, ◌++◌}
use Rattle.text_core.specs.Names.{Text}
use Rattle.tptp_printer.specs.Canonical.{item_text}
use Rattle.tptp_printer.proofs.Items.{item_back}
use Rattle.tptp_printer.proofs.print.print_item.Goals as goal

pub returns-clause-reads_back : goal.returns-clause-reads_back
returns-clause-reads_back c = item_back c.args.item.now c.put_item.new.out (c.in_ok-put_item.ensures.text ∙ ap (λ (old : Text). old ++ item_text c.args.item.now) c.new-bytes.ensures) c.requires c.in_ok-put_item.ensures.named
