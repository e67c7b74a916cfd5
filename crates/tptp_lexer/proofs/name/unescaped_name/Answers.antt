use Rattle.std.proofs.Common.{◌≡◌, sym, ◌∙◌, subst, IfOk}
use Rattle.text_core.specs.Names.{Text}
use Rattle.text_core.specs.NameTexts.{IsNameText}
use Rattle.tptp_lexer.proofs.Names.{body_name, no_escape}
use Rattle.tptp_lexer.proofs.name.unescaped_name.Goals as goal

pub from_bytes-requires : goal.from_bytes-requires
from_bytes-requires c = subst IsNameText (sym (c.as_slice.ensures ∙ c.in_ok-bytes.ensures)) (body_name c.args.body.now c.requires.some c.requires.body)

pub from_bytes-requires-else-contains : goal.from_bytes-requires-else-contains
from_bytes-requires-else-contains c = subst IsNameText (no_escape c.args.body.now (sym c.contains.ensures.value ∙ c.if-contains.false)) (body_name c.args.body.now c.requires.some c.requires.body)

pub returns-else-contains : goal.returns-else-contains
returns-else-contains c = subst (λ (xs : Text). IfOk c.from_bytes-else-contains.result (λ (name : Text). name ≡ xs)) (sym (no_escape c.args.body.now (sym c.contains.ensures.value ∙ c.if-contains.false))) c.from_bytes-else-contains.ensures
