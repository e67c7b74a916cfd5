use Rattle.tptp_lexer.proofs.Order
use Rattle.tptp_lexer.proofs.law.tokens_in_order.Goals as goal

pub returns : goal.returns
returns c = Order.tokens_in_order
