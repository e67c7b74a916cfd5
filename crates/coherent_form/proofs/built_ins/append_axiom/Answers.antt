use Rattle.coherent_form.specs.contracts.source.SourcePartialEq.TheImpl as source_eq
use Rattle.std.proofs.Common.{◌∙◌}
use Rattle.coherent_form.specs.declared.source.Source.TheVariants as source
use Rattle.coherent_form.proofs.Sources.{source_same, insert_new}
use Rattle.coherent_form.proofs.built_ins.append_axiom.Goals as goal

pub returns-clause-sources : goal.returns-clause-sources
returns-clause-sources c = c.in_ok-insert.ensures.keys ∙ insert_new source_eq.eq-value.it source_same c.args.sources.now.keys (source.BuiltIn c.args.built) c.requires.new
