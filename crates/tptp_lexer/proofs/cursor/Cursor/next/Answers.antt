use Rattle.std.proofs.Common.{ap, ◌∙◌}
use Rattle.tptp_lexer.specs.First.{first_of}
use Rattle.tptp_lexer.proofs.Spelled.{first_seen}
use Rattle.tptp_lexer.proofs.cursor.Cursor.next.Goals as goal

pub returns-then-self-len : goal.returns-then-self-len
returns-then-self-len c = first_seen c.self.inside.tokens.now.tokens c.self.inside.number c.token-token.result c.token-token.ensures ∙ ap first_of c.self.view_is
