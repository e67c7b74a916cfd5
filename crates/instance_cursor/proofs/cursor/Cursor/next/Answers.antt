use Rattle.std.proofs.Common.{◌≡◌, ◌∷◌, length, refl, sym, ap, ◌∙◌}
use Rattle.std.proofs.lemmas.List.{with_items_is}
use Rattle.instance_cursor.specs.Fitting.{Searched, instance_at}
use Rattle.instance_cursor.specs.Picking.{left_after}
use Rattle.instance_cursor.specs.Cursors.{searched, picks_left, rest_of}
use Rattle.instance_cursor.proofs.Placed.{length-origins}
use Rattle.instance_cursor.proofs.Turns.{nothing_left, one_given}
use Rattle.instance_cursor.proofs.cursor.Cursor.next.Goals as goal

pub returns-then-not-pick_next-clause-over : goal.returns-then-not-pick_next-clause-over
returns-then-not-pick_next-clause-over c =
    let space : Searched = record { premises = c.as_slice.result.now; origins = c.as_slice-2.result.now; facts = c.args.store.now.facts; elements = c.args.elements } in
    let origins = c.as_slice-2.ensures.value ∙ ap (λ p. p.origins) c.self.view_is ∙ c.requires.origins in
    let same : space ≡ searched c.args.form.now c.args.store.now.facts c.args.elements =
    λ i. record { premises = c.as_slice.ensures i; origins = origins i; facts = c.args.store.now.facts; elements = c.args.elements } in
    nothing_left c.args.form.now c.args.store.now.facts c.args.elements c.args.self.now space same
    ((λ i. picks_left space (sym c.self.view_is i).stage (sym c.self.view_is i).picks)
    ∙ ap (picks_left space c.self.inside.stage) (sym c.as_mut_slice.ensures.value)
    ∙ c.if-not-pick_next.ensures.over)

pub returns-then-not-pick_next-clause-ended : goal.returns-then-not-pick_next-clause-ended
unfolding rest_of
returns-then-not-pick_next-clause-ended c = refl

pub write_instance-requires : goal.write_instance-requires
write_instance-requires c =
    ap length c.as_mut_slice-2.ensures.value
    ∙ ap (λ p. length p.args) c.self.view_is
    ∙ c.requires.args
    ∙ sym (length-origins c.args.form.now.premises c.args.form.now.universals)
    ∙ ap length (sym (c.as_slice-2.ensures.value ∙ ap (λ p. p.origins) c.self.view_is ∙ c.requires.origins))

pub returns-clause-given : goal.returns-clause-given
returns-clause-given c =
    let space : Searched = record { premises = c.as_slice.result.now; origins = c.as_slice-2.result.now; facts = c.args.store.now.facts; elements = c.args.elements } in
    let origins = c.as_slice-2.ensures.value ∙ ap (λ p. p.origins) c.self.view_is ∙ c.requires.origins in
    let same : space ≡ searched c.args.form.now c.args.store.now.facts c.args.elements =
    λ i. record { premises = c.as_slice.ensures i; origins = origins i; facts = c.args.store.now.facts; elements = c.args.elements } in
    let picks = with_items_is c.self.inside.picks c.pick_next.new.picks (c.pick_next.auto.picks ∙ ap length c.as_mut_slice.ensures.value ∙ sym c.self.inside.picks.ok.0) in
    let args = with_items_is c.self.inside.args c.write_instance.new.args (c.write_instance.auto.args ∙ ap length c.as_mut_slice-2.ensures.value ∙ sym c.self.inside.args.ok.0) in
    one_given c.args.form.now c.args.store.now.facts c.args.elements c.args.self.now space same _ refl
    (args ∙ c.write_instance.ensures ∙ ap (instance_at space) c.as_slice-3.ensures.value)
    ((λ i. picks_left space (sym c.self.view_is i).stage (sym c.self.view_is i).picks)
    ∙ ap (picks_left space c.self.inside.stage) (sym c.as_mut_slice.ensures.value)
    ∙ c.if-not-pick_next.ensures.next
    ∙ (λ i. sym picks i ∷ left_after space 0 (sym picks i)))
