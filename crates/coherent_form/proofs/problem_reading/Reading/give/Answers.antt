use Rattle.std.proofs.Common.{◌≡◌, ◌++◌, ◌∙◌, ap, sym, subst, length, map, ℕ, ◌+◌}
use Rattle.std.specs.List.{sum_by}
use Rattle.vernacular_tree.specs.Contexts.{counted}
use Rattle.coherent_form.specs.Gathered.{is_of, AreNamed}
use Rattle.coherent_form.specs.Labels.{how_many}
use Rattle.coherent_form.specs.Tasks.{AreFew, atoms_in}
use Rattle.coherent_form.specs.declared.source.Source.TheVariants.{Formula}
use Rattle.coherent_form.proofs.NamesKept.{citations_after, named_after, variables_after}
use Rattle.coherent_form.proofs.Taking.{same_count}
use Rattle.coherent_form.proofs.problem_reading.Reading.give.Goals as goal

pub returns-clause-progress : goal.returns-clause-progress
returns-clause-progress c =
    let old = c.args.self.now in
    let names = c.number_of-2.new.names.keys in
    let new = c.variables_of.new.names.keys in
    let count : c.in_ok-count.count ≡ length c.args.forms = c.in_ok-count.ensures ∙ c.len.ensures in
    let sources = c.in_ok-push_sources.ensures.sources ∙ ap (λ (n : ℕ). old.sources.keys ++ map (Formula c.in_ok-name.name) (counted (how_many (is_of c.in_ok-name.name) old.sources.keys + 1) n)) count in
    λ i. record {
      tables = old.tables;
      forms = c.in_ok-append-2.ensures.ok i;
      citations = citations_after old.names.keys names new c.args.fof.now.name c.in_ok-name.name c.in_ok-name.ensures.number c.in_ok-name.ensures.ok c.in_ok-variables.ensures.extends
          old.tables old.sources.keys c.push_sources.new.sources.keys (length c.args.forms) c.requires.named.of_forms sources c.in_ok-variables.ensures.distinct i;
      variables = (ap (map (map _)) c.in_ok-append.ensures.ok ∙ variables_after old.names.keys names new c.args.fof.now.name c.in_ok-name.name c.in_ok-name.ensures.number c.in_ok-name.ensures.ok c.in_ok-variables.ensures.extends
          old.variables c.in_ok-variables.variables _ c.requires.named.of_variables c.in_ok-variables.ensures.variables) i;
      goal = old.goal;
    }

pub returns-clause-reading : goal.returns-clause-reading
returns-clause-reading c =
    let old = c.args.self.now in
    let names = c.number_of-2.new.names.keys in
    let new = c.variables_of.new.names.keys in
    let count : c.in_ok-count.count ≡ length c.args.forms = c.in_ok-count.ensures ∙ c.len.ensures in
    let sources = c.in_ok-push_sources.ensures.sources ∙ ap (λ (n : ℕ). old.sources.keys ++ map (Formula c.in_ok-name.name) (counted (how_many (is_of c.in_ok-name.name) old.sources.keys + 1) n)) count in
    let forms : old.forms ++ c.args.forms ≡ c.append-2.new.self = sym c.in_ok-append-2.ensures.ok in
    let asked : c.as_slice.result.now ++ c.as_slice-2.result.now ≡ c.append-2.new.self = (λ i. c.as_slice.ensures i ++ c.as_slice-2.ensures i) ∙ forms in
    record {
      named = subst (AreNamed new c.push_sources.new.sources.keys) (sym c.in_ok-append.ensures.ok)
          (named_after old.names.keys names new c.args.fof.now.name c.in_ok-name.name c.in_ok-name.ensures.number c.in_ok-name.ensures.ok c.in_ok-variables.ensures.extends
          old.tables old.sources.keys c.push_sources.new.sources.keys (length c.args.forms) c.requires.named.of_forms sources c.in_ok-variables.ensures.distinct
          old.variables c.in_ok-variables.variables c.requires.named.of_variables c.in_ok-variables.ensures.there);
      ranked = c.in_ok-push_sources.ensures.ranked;
      sources = same_count old.sources.keys c.push_sources.new.sources.keys old.forms c.args.forms c.append-2.new.self c.in_ok-name.name (how_many (is_of c.in_ok-name.name) old.sources.keys + 1)
          c.requires.sources sources c.in_ok-append-2.ensures.ok;
      few = subst AreFew asked c.in_ok-atoms.ensures.few;
      atoms = c.in_ok-atoms.ensures.ok ∙ ap (sum_by atoms_in) asked;
      places = c.requires.places;
    }
