use Rattle.std.proofs.Common.{sym, ◌∙◌}
use Rattle.proof_text.specs.StandsFor.{labels_of}
use Rattle.proof_checker.specs.Checks.{Nothing}
use Rattle.proof_checker.proofs.Elements.{given_long}
use Rattle.proof_checker.proofs.Labelled.{labels_of-long}
use Rattle.proof_checker.proofs.Instances.{named_unknown, named_repeated, named_bound, named_value}
use Rattle.proof_checker.proofs.args.check_named.Goals as goal

pub returns-in-Some-clause-err : goal.returns-in-Some-clause-err
returns-in-Some-clause-err c variables are =
    let labels = c.as_slice.ensures ∙ c.in_ok-labels.ensures c.args.form.now variables are in
    named_unknown c.args.trail.now.names c.args.form.now variables c.args.binds.now Nothing c.in-Some.bind c.if-binds-form.false
    (rw labels at c.in-Some.ensures)

pub returns-in-Some-repeated_label-clause-err : goal.returns-in-Some-repeated_label-clause-err
returns-in-Some-repeated_label-clause-err c variables are =
    let labels = c.as_slice.ensures ∙ c.in_ok-labels.ensures c.args.form.now variables are in
    named_repeated c.args.trail.now.names c.args.form.now variables c.args.binds.now Nothing c.in-Some-repeated_label.bind c.if-binds-form.false
    (rw labels at c.in_default.ensures) c.in-Some-repeated_label.ensures

pub returns-in-Some-2-clause-ok : goal.returns-in-Some-2-clause-ok
returns-in-Some-2-clause-ok c variables are =
    let labels = c.as_slice-2.ensures ∙ c.in_ok-labels.ensures c.args.form.now variables are in
    let given = rw (c.in-Some-2.is, labels) at c.in_ok-elements.ensures in (
      (c.if-binds-form.false ∙ sym are.as_many, given),
      sym (given_long c.args.trail.now.names c.args.binds.now (labels_of variables) c.in-Some-2.elements given) ∙ labels_of-long variables ∙ are.as_many,
    )

pub returns-clause-err : goal.returns-clause-err
returns-clause-err c variables are =
    let first = c.as_slice.ensures ∙ c.in_ok-labels.ensures c.args.form.now variables are in
    let labels = c.as_slice-2.ensures ∙ c.in_ok-labels.ensures c.args.form.now variables are in
    let unnamed = rw (c.in-None.is, labels) at c.in_ok-elements.ensures in
    let known = rw first at c.in_default.ensures in
    let names = c.args.trail.now.names in
    let form = c.args.form.now in
    let binds = c.args.binds.now in
    named_value names form variables binds Nothing c.if-binds-form.false known c.in_default-repeated_label.ensures
    (λ all. unnamed all (named_bound names form variables binds Nothing (c.if-binds-form.false ∙ sym are.as_many) known c.in_default-repeated_label.ensures))
