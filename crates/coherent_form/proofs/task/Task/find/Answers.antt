use Rattle.std.proofs.Common.{◌≡◌, List, slice_get, Some, ap, sym, subst, ◌∙◌}
use Rattle.text_core.specs.Lists.{IsAmong}
use Rattle.coherent_form.proofs.Cites.{none_cited, form_found, form_one, form_none}
use Rattle.coherent_form.specs.declared.citation.Citation.{Citation}
use Rattle.coherent_form.proofs.task.Task.find.Goals as goal

pub returns-clause-found : goal.returns-clause-found
returns-clause-found c =
    let kept = c.self.invariant.0 in let inside = c.self.inside in
    let citations = ap (λ task. task.citations) c.self.view_is in
    subst (λ (all : List Citation). slice_get all c.in_ok-form.form ≡ Some c.args.cite.now) citations
    (form_found inside.names.keys inside.tables inside.sources.keys kept.distinct c.symbols.ensures.distinct kept.there c.args.cite.now
    c.in_ok-source.source (sym c.source_cited.ensures.value ∙ c.in_ok-source.was) c.in_ok-form.form (sym c.get_index_of.ensures.index ∙ c.in_ok-form.was))

pub returns-clause-one : goal.returns-clause-one
returns-clause-one c other at =
    let kept = c.self.invariant.0 in let inside = c.self.inside in
    let citations = ap (λ task. task.citations) c.self.view_is in
    form_one inside.names.keys inside.tables inside.sources.keys kept.distinct c.symbols.ensures.distinct kept.there c.args.cite.now
    c.in_ok-source.source (sym c.source_cited.ensures.value ∙ c.in_ok-source.was) c.len.ensures.unique c.in_ok-form.form (sym c.get_index_of.ensures.index ∙ c.in_ok-form.was)
    other (subst (λ (all : List Citation). slice_get all other ≡ Some c.args.cite.now) (sym citations) at)

pub returns-in_err-source-clause-none : goal.returns-in_err-source-clause-none
returns-in_err-source-clause-none c =
    let kept = c.self.invariant.0 in let inside = c.self.inside in
    let citations = ap (λ task. task.citations) c.self.view_is in
    rw c.from_residual.ensures (λ among. none_cited inside.names.keys inside.tables inside.sources.keys kept.distinct c.symbols.ensures.distinct kept.there c.args.cite.now
    (sym c.source_cited.ensures.value ∙ c.in_err-source.was) (subst (λ (all : List Citation). IsAmong c.args.cite.now all) (sym citations) among))

pub returns-in_err-form-clause-none : goal.returns-in_err-form-clause-none
returns-in_err-form-clause-none c =
    let kept = c.self.invariant.0 in let inside = c.self.inside in
    let citations = ap (λ task. task.citations) c.self.view_is in
    rw c.from_residual-in_err-form.ensures (λ among. form_none inside.names.keys inside.tables inside.sources.keys kept.distinct c.symbols.ensures.distinct kept.there c.args.cite.now
    c.in_ok-source.source (sym c.source_cited.ensures.value ∙ c.in_ok-source.was) c.len.ensures.unique (sym c.get_index_of.ensures.index ∙ c.in_err-form.was)
    (subst (λ (all : List Citation). IsAmong c.args.cite.now all) (sym citations) among))
