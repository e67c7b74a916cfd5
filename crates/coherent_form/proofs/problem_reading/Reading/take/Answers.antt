use Rattle.std.proofs.Common.{rules, ◌≡◌, ◌⊎◌, true, false, Err, Some, inr, sym, ◌∙◌}
use Rattle.coherent_form.specs.Tasks.{IsRefusedBehind, is_conjecture, is_second}
use Rattle.coherent_form.specs.Gathered.{progress_of}
use Rattle.coherent_form.specs.declared.task_refusal.TaskWhy.TheVariants.{Memory}
use Rattle.coherent_form.proofs.Taking.{on_ok_from, if_err_from, err_as, reading_with, premise_taken, premise_progress, premise_refused, conjecture_taken, conjecture_progress, conjecture_refused}
use Rattle.coherent_form.proofs.problem_reading.Reading.take.Goals as goal

pub returns-then-not-is_conjecture-clause-taken : goal.returns-then-not-is_conjecture-clause-taken
returns-then-not-is_conjecture-clause-taken c =
    let first : is_second (progress_of c.args.self.now) c.args.fof.now ≡ false = sym c.is_second.ensures ∙ c.if-is_second.false in
    let premise : is_conjecture c.args.fof.now.role ≡ false = sym c.is_conjecture.ensures ∙ c.if-not-is_conjecture.true in
    on_ok_from c.give.result (premise_taken c.args.self.now c.read.new.self c.args.fof.now c.in_ok-forms.forms c.requires.reading c.requires.allowed first
    c.in_ok-forms.ensures.kept c.in_ok-forms.ensures.forms c.in_ok-forms.ensures.places c.in_ok-forms.ensures.few premise) c.give.ensures.few

pub returns-then-not-is_conjecture-clause-progress : goal.returns-then-not-is_conjecture-clause-progress
returns-then-not-is_conjecture-clause-progress c =
    let first : is_second (progress_of c.args.self.now) c.args.fof.now ≡ false = sym c.is_second.ensures ∙ c.if-is_second.false in
    let premise : is_conjecture c.args.fof.now.role ≡ false = sym c.is_conjecture.ensures ∙ c.if-not-is_conjecture.true in
    on_ok_from c.give.result (premise_progress c.args.self.now c.read.new.self c.args.fof.now c.in_ok-forms.forms c.requires.reading c.requires.allowed first
    c.in_ok-forms.ensures.kept c.in_ok-forms.ensures.forms c.in_ok-forms.ensures.places c.in_ok-forms.ensures.few premise c.give.new.self) c.give.ensures.progress

pub returns-then-not-is_conjecture-clause-err : goal.returns-then-not-is_conjecture-clause-err
returns-then-not-is_conjecture-clause-err c =
    let first : is_second (progress_of c.args.self.now) c.args.fof.now ≡ false = sym c.is_second.ensures ∙ c.if-is_second.false in
    let premise : is_conjecture c.args.fof.now.role ≡ false = sym c.is_conjecture.ensures ∙ c.if-not-is_conjecture.true in
    if_err_from c.give.result (premise_refused c.args.self.now c.read.new.self c.args.fof.now c.in_ok-forms.forms c.requires.reading c.requires.allowed first
    c.in_ok-forms.ensures.kept c.in_ok-forms.ensures.forms c.in_ok-forms.ensures.places c.in_ok-forms.ensures.few premise) c.give.ensures.err

pub returns-in_err-goal_of-clause-err : goal.returns-in_err-goal_of-clause-err
returns-in_err-goal_of-clause-err c =
    let first : is_second (progress_of c.args.self.now) c.args.fof.now ≡ false = sym c.is_second.ensures ∙ c.if-is_second.false in
    let conjecture : is_conjecture c.args.fof.now.role ≡ true = sym c.is_conjecture.ensures ∙ c.if-not-is_conjecture.false in
    let is : c.from_residual-in_err-goal_of.result ≡ Err c.in_err-goal_of.field-0.0 = search rules in
    let many = c.in_err-goal_of.ensures.many in
    err_as (λ w. (w ≡ Memory) ⊎ IsRefusedBehind (progress_of c.args.self.now) c.args.fof.now w) c.from_residual-in_err-goal_of.result c.in_err-goal_of.field-0.0 is
    (inr (conjecture_refused c.args.self.now c.read.new.self c.args.fof.now c.in_ok-forms.forms c.requires.reading c.requires.allowed first
    c.in_ok-forms.ensures.kept c.in_ok-forms.ensures.forms c.in_ok-forms.ensures.places c.in_ok-forms.ensures.few conjecture c.in_err-goal_of.field-0.0 many.0 many.1))

pub returns-clause-taken : goal.returns-clause-taken
returns-clause-taken c =
    let first : is_second (progress_of c.args.self.now) c.args.fof.now ≡ false = sym c.is_second.ensures ∙ c.if-is_second.false in
    let conjecture : is_conjecture c.args.fof.now.role ≡ true = sym c.is_conjecture.ensures ∙ c.if-not-is_conjecture.false in
    conjecture_taken c.args.self.now c.read.new.self c.args.fof.now c.in_ok-forms.forms c.requires.reading c.requires.allowed first
    c.in_ok-forms.ensures.kept c.in_ok-forms.ensures.forms c.in_ok-forms.ensures.places c.in_ok-forms.ensures.few conjecture c.in_ok-goal_of.ensures.single

pub returns-clause-progress : goal.returns-clause-progress
returns-clause-progress c =
    let first : is_second (progress_of c.args.self.now) c.args.fof.now ≡ false = sym c.is_second.ensures ∙ c.if-is_second.false in
    let conjecture : is_conjecture c.args.fof.now.role ≡ true = sym c.is_conjecture.ensures ∙ c.if-not-is_conjecture.false in
    conjecture_progress c.args.self.now c.read.new.self c.args.fof.now c.in_ok-forms.forms c.requires.reading c.requires.allowed first
    c.in_ok-forms.ensures.kept c.in_ok-forms.ensures.forms c.in_ok-forms.ensures.places c.in_ok-forms.ensures.few conjecture c.in_ok-goal_of.field-0 c.in_ok-goal_of.ensures.goal

pub returns-clause-reading : goal.returns-clause-reading
returns-clause-reading c =
    let first : is_second (progress_of c.args.self.now) c.args.fof.now ≡ false = sym c.is_second.ensures ∙ c.if-is_second.false in
    reading_with c.args.self.now c.read.new.self c.args.fof.now c.in_ok-forms.forms c.requires.reading c.requires.allowed first
    c.in_ok-forms.ensures.kept c.in_ok-forms.ensures.forms c.in_ok-forms.ensures.places c.in_ok-forms.ensures.few (Some c.in_ok-goal_of.field-0)
