use Rattle.std.proofs.Common.{refl, ap}
use Rattle.kept_context.specs.Kept.{Kept}
use Rattle.kept_context.proofs.Standing.{instance_told, not_instance}
use Rattle.kept_context.proofs.kept.KeptContext.is_instance.Goals as goal

pub returns-then-not-are_known : goal.returns-then-not-are_known
returns-then-not-are_known c task lent context is =
    not_instance task lent c.args.self.now context is c.args.form.now c.args.args.now
    (λ known. let passes = c.if-not-are_known.ensures.1 (rw (← ap (λ (k : Kept). k.elements) c.self.view_is) at known) in cc)

pub returns : goal.returns
returns c task lent context is =
    instance_told task lent c.args.self.now context is c.args.form.now c.args.args.now c.are_standing.result c.if-args-form.false
    (rw (ap (λ (k : Kept). k.elements) c.self.view_is) at c.if-not-are_known.ensures.0 refl)
    (rw (c.as_slice.ensures, ap (λ (k : Kept). k.store.facts) c.self.view_is) at c.are_standing.ensures)
