use Rattle.std.proofs.Common.{◌∙◌, ap, get_or, unwrap_or, arith}
use Rattle.tptp_grammar.proofs.Counts.{has_some}
use Rattle.tptp_grammar.proofs.counted.Counted.has.Goals as goal

pub returns : goal.returns
returns c =
    rw (← c.self.view_is)
    (has_some c.self.inside.counts.items c.self.inside.bindings.items c.args.variable c.unwrap_or.result c.self.invariant
    (c.unwrap_or.ensures ∙ (ap (λ o. unwrap_or o 0) c.copied.ensures ∙ (c.get.ensures.lookup.4 (omega arith) 0 ∙
    ap (λ counts. get_or counts c.args.variable 0) c.deref.ensures.value))))
