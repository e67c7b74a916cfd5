use Rattle.std.proofs.Common.{◌≡◌, List, slice_get, Some, ap, sym, subst}
use Rattle.coherent_form.proofs.Cites.{cited_once}
use Rattle.coherent_form.specs.declared.citation.Citation.{Citation}
use Rattle.coherent_form.proofs.task.Task.citations_differ.Goals as goal

pub returns : goal.returns
returns c cite a b here there =
    let kept = c.self.invariant.0 in let inside = c.self.inside in
    let citations = ap (λ task. task.citations) c.self.view_is in
    cited_once inside.names.keys inside.tables inside.sources.keys kept.distinct c.symbols.ensures.distinct kept.there cite c.len.ensures.unique a b
    (subst (λ (all : List Citation). slice_get all a ≡ Some cite) (sym citations) here)
    (subst (λ (all : List Citation). slice_get all b ≡ Some cite) (sym citations) there)
