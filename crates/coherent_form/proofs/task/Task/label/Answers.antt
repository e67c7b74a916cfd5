use Rattle.std.proofs.Common.{◌≡◌, ℕ, List, map, slice_get, Some, ap, sym, subst, arith}
use Rattle.logic_core.specs.declared.form.Form.{Form}
use Rattle.coherent_form.proofs.Labelled.{form_few, kept_there, kept_count, variables_kept, variables_built, label_built_in, labelled}
use Rattle.text_core.specs.Names.{Text}
use Rattle.coherent_form.specs.BuiltIns.{built_in_names}
use Rattle.coherent_form.specs.Kept.{name_at}
use Rattle.coherent_form.specs.Labels.{label_of}
use Rattle.coherent_form.proofs.task.Task.label.Goals as goal

pub label_among-requires-clause-named : goal.label_among-requires-clause-named
label_among-requires-clause-named c =
    let inside = c.self.inside in
    let forms = ap (λ task. task.forms) c.self.view_is in
    let at = subst (λ (forms : List Form). slice_get forms c.args.form ≡ Some c.requires.0) (sym forms) c.requires.1 in
    rw c.as_slice.ensures (kept_there inside.tables inside.names.keys inside.forms inside.sources.keys inside.variables inside.goal c.self.invariant.0.right
    c.args.form c.requires.0 at c.in-Some.numbers.now (sym c.in-Some.ensures.value))

pub label_among-requires-clause-there : goal.label_among-requires-clause-there
label_among-requires-clause-there c =
    let inside = c.self.inside in
    let forms = ap (λ task. task.forms) c.self.view_is in
    let at = subst (λ (forms : List Form). slice_get forms c.args.form ≡ Some c.requires.0) (sym forms) c.requires.1 in
    let count = kept_count inside.tables inside.names.keys inside.forms inside.sources.keys inside.variables inside.goal c.self.invariant.0.right
    c.args.form c.requires.0 at c.in-Some.numbers.now (sym c.in-Some.ensures.value) in
    let below = c.requires.2 in
    rw c.as_slice.ensures (rw count below)

pub label_among-requires-clause-few : goal.label_among-requires-clause-few
label_among-requires-clause-few c =
    let inside = c.self.inside in
    let forms = ap (λ task. task.forms) c.self.view_is in
    let at = subst (λ (forms : List Form). slice_get forms c.args.form ≡ Some c.requires.0) (sym forms) c.requires.1 in
    let few = form_few inside.tables inside.names.keys inside.forms inside.sources.keys inside.variables inside.goal c.self.invariant.0.right c.args.form c.requires.0 at in
    let below = c.requires.2 in omega (few, below, arith)

pub returns-in-Some : goal.returns-in-Some
returns-in-Some c =
    let inside = c.self.inside in
    let variables = ap (λ task. task.variables) c.self.view_is in
    let kept = variables_kept inside.names.keys inside.variables inside.forms c.args.form c.in-Some.numbers.now (sym c.in-Some.ensures.value) in
    labelled c.label_among.result c.args.self.now.variables c.args.form c.args.variable _ _
    (subst (λ (variables : List (List Text)). slice_get variables c.args.form ≡ Some (map (name_at inside.names.keys) c.in-Some.numbers.now)) variables kept)
    (ap (λ (numbers : List ℕ). label_of (map (name_at inside.names.keys) numbers) c.args.variable) c.as_slice.ensures) c.label_among.ensures

pub returns-in-None : goal.returns-in-None
returns-in-None c =
    let inside = c.self.inside in
    let forms = ap (λ task. task.forms) c.self.view_is in
    let variables = ap (λ task. task.variables) c.self.view_is in
    let at = subst (λ (forms : List Form). slice_get forms c.args.form ≡ Some c.requires.0) (sym forms) c.requires.1 in
    let built = variables_built inside.names.keys inside.variables inside.forms c.args.form c.requires.0 c.in-None.ensures.none at in
    labelled c.built_in_label.result c.args.self.now.variables c.args.form c.args.variable _ _
    (subst (λ (variables : List (List Text)). slice_get variables c.args.form ≡ Some (built_in_names c.requires.0)) variables built)
    (label_built_in c.requires.0 c.args.variable c.requires.2 (omega arith)) c.built_in_label.ensures
