use Rattle.std.proofs.Common.{map, sym, ap, ◌∙◌}
use Rattle.coherent_form.specs.Reading.{atom_moved}
use Rattle.coherent_form.proofs.Joining.{disjuncts_stay}
use Rattle.coherent_form.proofs.head.disjuncts_after.Goals as goal

pub returns-then-by-eq0 : goal.returns-then-by-eq0
returns-then-by-eq0 c = sym (disjuncts_stay c.args.from c.args.disjuncts) ∙ ap (λ k. map (map (atom_moved c.args.from k)) c.args.disjuncts) (sym c.if-by-eq0.true)
