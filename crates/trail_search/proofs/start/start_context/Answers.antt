use Rattle.std.proofs.Common.{◌≤◌, List, [], ◌++◌, ◌∷◌, ap, sym, ◌∙◌, subst}
use Rattle.logic_core.specs.declared.form.Form.{Form}
use Rattle.vernacular_tree.specs.declared.context.Context.{Context}
use Rattle.vernacular_tree.specs.declared.context.Line as Line
use Rattle.vernacular_tree.specs.declared.context.Line.TheVariants.{Facts}
use Rattle.kept_context.specs.Lent.{IsContextOf, fact_count, arg_count}
use Rattle.trail_search.proofs.Started.{built, started_is, started_lent, started_facts, started_args}
use Rattle.trail_search.proofs.start.start_context.Goals as goal

pub returns : goal.returns
returns c =
    let task = c.args.task.now in
    let right = c.goal.ensures.right in
    let premises = c.as_slice-premises.ensures ∙ ap (λ (form : Form). form.premises) c.goal.ensures.value in
    let lines = c.in_ok-push.ensures.ok ∙ ap (λ (none : List Line.Line). none ++ Facts c.in_ok-facts.facts ∷ []) c.new-lines.ensures in
    let same = built task right c.start_elements.result c.as_slice.result.now c.as_slice-premises.result.now c.in_ok-facts.facts c.push.new.self c.start_elements.ensures.value
    (c.as_slice.ensures ∙ c.in_ok-parameters.ensures) premises c.in_ok-facts.ensures lines in record {
      value = sym same ∙ started_is task right;
      lent = subst (IsContextOf task) same (started_lent task right);
      few_facts = subst (λ (context : Context). fact_count context ≤ 1024) same (started_facts task right);
      few_args = subst (λ (context : Context). arg_count context ≤ 32768) same (started_args task right);
    }
