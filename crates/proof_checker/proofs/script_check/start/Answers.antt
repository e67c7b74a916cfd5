use Rattle.std.proofs.Common.{◌≡◌, List, map, ap, sym, ◌∙◌, subst}
use Rattle.logic_core.specs.declared.form.Atom.{Atom}
use Rattle.logic_core.specs.declared.form.Form.{Form}
use Rattle.proof_text.specs.Branches.{start_names}
use Rattle.proof_checker.specs.Kept.{Kept, FactsFit, HasLine, fact_at}
use Rattle.proof_checker.specs.declared.fact.HeldLine.TheVariants.{Facts}
use Rattle.proof_checker.proofs.Started.{started}
use Rattle.proof_checker.proofs.Taken.{premises_fit}
use Rattle.proof_checker.proofs.script_check.start.Goals as goal

pub push_line-requires-clause-fits : goal.push_line-requires-clause-fits
push_line-requires-clause-fits c =
    let task = c.args.task.now in
    let es = c.as_slice-2.result.now in
    let premises = c.as_slice-premises.ensures ∙ ap (λ (f : Form). f.premises) c.goal.ensures.value in
    let facts : c.in_ok-facts.facts ≡ map (fact_at es) task.goal.premises = c.in_ok-facts.ensures ∙ ap (λ (atoms : List Atom). map (fact_at es) atoms) premises in
    subst (FactsFit c.in_ok-trail.trail.signed) (sym facts)
    (premises_fit task.tables c.in_ok-trail.trail.signed es task.goal.premises (ap (λ (k : Kept). k.signed) c.in_ok-trail.ensures.named) c.goal.ensures.right.goal.premises)

pub returns-clause-branch : goal.returns-clause-branch
returns-clause-branch c =
    let task = c.args.task.now in
    let take = c.args.take.now in
    let es = c.as_slice-2.result.now in
    let premises = c.as_slice-premises.ensures ∙ ap (λ (f : Form). f.premises) c.goal.ensures.value in
    let facts : c.in_ok-facts.facts ≡ map (fact_at es) task.goal.premises = c.in_ok-facts.ensures ∙ ap (λ (atoms : List Atom). map (fact_at es) atoms) premises in
    let none = c.as_slice.ensures ∙ c.new-none.ensures in
    let elements = c.as_slice-2.ensures ∙ (rw none at c.in_ok-parameters.ensures) in
    let has = subst (λ (k : Kept). HasLine (Facts c.in_ok-facts.facts) k c.push_line.new.self) c.in_ok-trail.ensures.named c.in_ok-push_line.ensures in
    started task take c.push_line.new.self (start_names task take) c.in_ok-facts.facts es c.in_ok-trail.ensures.takes.as_many (λ i. start_names task take) elements facts has
