use Rattle.std.proofs.Common.{◌+◌, ◌∷◌, ◌++◌, map, length, ap, sym, ◌∙◌, subst}
use Rattle.std.specs.List.{AllByRecursion}
use Rattle.text_core.proofs.Laws.{take_all}
use Rattle.coherent_form.specs.BuiltIns.{built_ins, built_in_form}
use Rattle.coherent_form.specs.Kept.{BuiltInIsThere}
use Rattle.coherent_form.specs.declared.source.BuiltIn.TheVariants.{Refl}
use Rattle.coherent_form.specs.declared.source.Source.TheVariants as source
use Rattle.coherent_form.proofs.BuiltInLaws.{built_ins_there, apart_built_ins}
use Rattle.coherent_form.proofs.Counted.{each_item, AreApart}
use Rattle.coherent_form.proofs.Sources.{source_new}
use Rattle.coherent_form.proofs.built_ins.append_built_ins.Goals as goal

pub append_axiom-requires-clause-there : goal.append_axiom-requires-clause-there
append_axiom-requires-clause-there c =
    each_item (BuiltInIsThere (length c.args.tables.now.symbols + 1)) c.as_slice-built-items.result.now c.loop-built.built-index Refl c.loop-built-test.true
    (subst (AllByRecursion (BuiltInIsThere (length c.args.tables.now.symbols + 1))) (sym (c.as_slice-built-items.ensures ∙ c.in_ok-axioms.ensures))
    (built_ins_there c.args.tables.now (c.args.goal.now ∷ c.as_slice.result.now)))

pub append_axiom-requires-clause-new : goal.append_axiom-requires-clause-new
append_axiom-requires-clause-new c =
    source_new c.args.sources.now.keys c.as_slice-built-items.result.now c.loop-built.built-index Refl c.loop-built.sources.keys c.requires.given
    (subst AreApart (sym (c.as_slice-built-items.ensures ∙ c.in_ok-axioms.ensures)) (apart_built_ins c.args.tables.now (c.args.goal.now ∷ c.as_slice.result.now)))
    c.loop-built-test.true c.loop-built.invariant.sources

pub returns-clause-forms : goal.returns-clause-forms
returns-clause-forms c = c.loop-built.invariant.forms
    ∙ ap (λ axioms. c.args.forms.now ++ map (built_in_form c.args.tables.now) axioms)
    (take_all c.as_slice-built-items.result.now c.loop-built.built-index c.loop-built-test.false ∙ c.as_slice-built-items.ensures ∙ c.in_ok-axioms.ensures
    ∙ ap (λ forms. built_ins c.args.tables.now (c.args.goal.now ∷ forms)) c.as_slice.ensures)

pub returns-clause-sources : goal.returns-clause-sources
returns-clause-sources c = c.loop-built.invariant.sources
    ∙ ap (λ axioms. c.args.sources.now.keys ++ map source.BuiltIn axioms)
    (take_all c.as_slice-built-items.result.now c.loop-built.built-index c.loop-built-test.false ∙ c.as_slice-built-items.ensures ∙ c.in_ok-axioms.ensures
    ∙ ap (λ forms. built_ins c.args.tables.now (c.args.goal.now ∷ forms)) c.as_slice.ensures)
