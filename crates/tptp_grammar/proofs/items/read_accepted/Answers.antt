use Rattle.std.specs.Prelude.{◌≡◌, length, None}
use Rattle.std.proofs.Common.{sym, ◌∙◌}
use Rattle.text_core.specs.declared.limits.TheConstants.{MOST_LEVELS}
use Rattle.tptp_grammar.specs.Reading.{items_from}
use Rattle.tptp_grammar.proofs.Accepted.{readable, read_is_text}
use Rattle.tptp_grammar.proofs.items.read_accepted.Goals as goal

pub read_text-requires : goal.read_text-requires
read_text-requires c = readable c.args.tokens.now.source c.args.tokens.now.tokens c.source_len.ensures.tokens c.requires

pub unreachable-requires : goal.unreachable-requires
unreachable-requires c =
    let it = readable c.args.tokens.now.source c.args.tokens.now.tokens c.source_len.ensures.tokens c.requires in
    let none : items_from MOST_LEVELS (length c.args.tokens.now.tokens) c.args.tokens.now.tokens ≡ None =
    rw c.in-Err-NoText.field-0-is at c.in-Err-NoText.ensures in
    let both = sym it.is_read ∙ none in cc

pub returns-in-Ok : goal.returns-in-Ok
returns-in-Ok c = read_is_text c.args.tokens.now.source c.args.tokens.now.tokens c.in-Ok.items c.source_len.ensures.tokens c.requires c.in-Ok.ensures
