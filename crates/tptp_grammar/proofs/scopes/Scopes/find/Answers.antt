use Rattle.std.proofs.Common.{refl, true, false}
use Rattle.tptp_grammar.proofs.Closing.{used_bound}
use Rattle.tptp_grammar.proofs.scopes.Scopes.find.Goals as goal

pub returns-then-not-has : goal.returns-then-not-has
returns-then-not-has c =
    rw (← c.close.ensures, used_bound c.args.variable c.self.inside.bindings c.close.new.self false c.self.view_is c.if-not-has.ensures) refl

pub returns : goal.returns
returns c =
    rw (← c.close.ensures, used_bound c.args.variable c.self.inside.bindings c.close.new.self true c.self.view_is c.if-not-has.ensures) refl
