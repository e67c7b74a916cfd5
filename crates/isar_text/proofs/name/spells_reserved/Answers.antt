use Rattle.std.proofs.Common.{◌≡◌, ◌∙◌, rules}
use Rattle.std.specs.List.{list_any}
use Rattle.std.specs.Str.{bytes_eq}
use Rattle.isar_text.specs.Names.{hex_text, reserved_words}
use Rattle.isar_text.proofs.NamesRead.{reserved_spelled}
use Rattle.isar_text.proofs.name.spells_reserved.Goals as goal

pub returns : goal.returns
returns c =
    let found : c.spells_one.result ≡ list_any (λ word. bytes_eq c.args.text.now (hex_text word)) reserved_words = search rules in
    found ∙ reserved_spelled c.args.text.now c.requires
