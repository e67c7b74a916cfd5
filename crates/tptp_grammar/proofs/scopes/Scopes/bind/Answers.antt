use Rattle.std.proofs.Common.{◌≡◌, ◌∙◌, sym, true, false}
use Rattle.std.proofs.lemmas.Bool.{leb-true}
use Rattle.tptp_grammar.proofs.Closing.{never_fall_push}
use Rattle.tptp_grammar.proofs.scopes.Scopes.bind.Goals as goal
use Rattle.tptp_grammar.proofs.scopes.Scopes.bind.Goals.{then-self, else-self}

pub invariant_of-self-2 : goal.invariant_of-self-2
invariant_of-self-2 c =
    λ order. rw c.in_ok-push.ensures.ok (elim c.if-self.branch [
      | then-self w ↦
          never_fall_push c.self.inside.bindings _ w.newest_level.result (c.self.invariant w.if-self.true) w.newest_level.ensures
          (leb-true w.newest_level.result c.args.level (sym w.in_order-is ∙ order))
      | else-self w ↦ let e : true ≡ false = sym order ∙ (w.in_order-is ∙ w.if-self.false) in cc
    ])
