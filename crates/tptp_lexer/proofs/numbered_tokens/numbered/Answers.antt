use Rattle.std.proofs.lemmas.Map.Text.{hash_map_updates_str}
use Rattle.tptp_lexer.proofs.numbered_tokens.numbered.Goals as goal

pub returns-in_ok-insert-in-None-clause-noted : goal.returns-in_ok-insert-in-None-clause-noted
returns-in_ok-insert-in-None-clause-noted c = λ text.
    hash_map_updates_str c.args.word.now c.args.numbers.now c.insert.new.self _ c.in_ok-insert-in-None.ensures.updates text
