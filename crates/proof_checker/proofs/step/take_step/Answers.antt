use Rattle.std.proofs.Common.{◌≡◌, ◌++◌, length, sym, ◌∙◌, ap, subst}
use Rattle.proof_text.specs.Branches.{AreNew}
use Rattle.proof_checker.specs.Kept.{Kept, LineFits}
use Rattle.proof_checker.proofs.Compared.{failed}
use Rattle.proof_checker.proofs.Held.{on_true}
use Rattle.proof_checker.proofs.Taken.{line_fits, step_taken, step_differs}
use Rattle.proof_checker.proofs.step.take_step.Goals as goal

pub returns-then-not-shows-clause-err : goal.returns-then-not-shows-clause-err
returns-then-not-shows-clause-err c =
    let old = c.args.trail.now in
    let middle = c.add_names.new.self in
    let new : AreNew old.names c.args.text.now.fresh = rw c.as_slice.ensures at (c.in_ok-add_names.ensures.new.0 c.if-not-branch.false) in
    let added : middle ≡ record old { names = old.names ++ c.args.text.now.fresh }
    = rw c.as_slice.ensures at (on_true c.in_ok-add_names.field-0 _ c.in_ok-add_names.ensures.added c.if-not-branch.false) in
    let line = rw (c.as_slice-2.ensures, c.as_slice-3.ensures, c.in_ok-elements.ensures) at c.in_ok-line.ensures in
    let told = rw (c.tables.ensures, c.names-2.ensures) at c.shows.ensures in
    step_differs c.args.task.now c.args.text.now c.args.form.now c.args.args.now old middle c.in_ok-line.line (length c.names.result.now)
    (sym c.len.ensures ∙ c.if-len-form.false) new added (ap length c.names.ensures) line (failed c.shows.result _ told c.if-not-shows.true)

pub push_line-requires-clause-fits : goal.push_line-requires-clause-fits
push_line-requires-clause-fits c =
    let old = c.args.trail.now in
    let added : c.add_names.new.self ≡ record old { names = old.names ++ c.args.text.now.fresh }
    = rw c.as_slice.ensures at (on_true c.in_ok-add_names.field-0 _ c.in_ok-add_names.ensures.added c.if-not-branch.false) in
    let line = rw (c.as_slice-2.ensures, c.as_slice-3.ensures, c.in_ok-elements.ensures) at c.in_ok-line.ensures in
    let signed = ap (λ (k : Kept). k.signed) added ∙ c.requires.kept.signed in
    subst (LineFits c.add_names.new.self.signed) (sym line) (line_fits c.args.task.now.tables c.add_names.new.self.signed _ c.args.form.now signed c.requires.fits)

pub returns-clause-ok : goal.returns-clause-ok
returns-clause-ok c =
    let old = c.args.trail.now in
    let middle = c.add_names.new.self in
    let new : AreNew old.names c.args.text.now.fresh = rw c.as_slice.ensures at (c.in_ok-add_names.ensures.new.0 c.if-not-branch.false) in
    let added : middle ≡ record old { names = old.names ++ c.args.text.now.fresh }
    = rw c.as_slice.ensures at (on_true c.in_ok-add_names.field-0 _ c.in_ok-add_names.ensures.added c.if-not-branch.false) in
    let line = rw (c.as_slice-2.ensures, c.as_slice-3.ensures, c.in_ok-elements.ensures) at c.in_ok-line.ensures in
    let told = rw (c.tables.ensures, c.names-2.ensures) at c.shows.ensures in
    step_taken c.args.task.now c.args.text.now c.args.form.now c.args.args.now old middle c.push_line.new.self c.in_ok-line.line (length c.names.result.now)
    c.requires.kept (sym c.len.ensures ∙ c.if-len-form.false) new added c.in_ok-add_names.ensures.few (ap length c.names.ensures) line
    (told.0 c.if-not-shows.false) c.in_ok-push_line.ensures
