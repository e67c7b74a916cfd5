use Rattle.std.proofs.Common.{sym, subst}
use Rattle.model_text.specs.Texts.{AreModelOf}
use Rattle.model_text.proofs.Faults.{told_fault}
use Rattle.model_text.proofs.Read.{held_read, refusal_told, exact_model, exact_fault}
use Rattle.model_text.proofs.reader.read_tokens.Goals as goal

pub into_model-requires : goal.into_model-requires
into_model-requires c =
    let (value, spelled, built) = c.in-Ok.ensures.value in
    (held_read c.args.tokens.now.tokens c.in_ok-words.words c.new-watch.result c.build.new.watch c.in_ok-words.ensures c.new-watch.ensures
    value c.new-builder.result c.build.new.builder c.in-Ok.ensures.text spelled c.new-builder.ensures built).sound

pub returns-in-Ok : goal.returns-in-Ok
returns-in-Ok c =
    let (value, spelled, built) = c.in-Ok.ensures.value in
    exact_model c.args.tokens.now c.into_model.result
    (subst (AreModelOf c.args.tokens.now.tokens) (sym c.into_model.ensures)
    (held_read c.args.tokens.now.tokens c.in_ok-words.words c.new-watch.result c.build.new.watch c.in_ok-words.ensures c.new-watch.ensures
    value c.new-builder.result c.build.new.builder c.in-Ok.ensures.text spelled c.new-builder.ensures built))

pub told-requires : goal.told-requires
told-requires c =
    refusal_told c.args.tokens.now.tokens c.in_ok-words.words c.new-watch.result c.build.new.watch c.in_ok-words.ensures c.new-watch.ensures
    c.in-Err.refusal c.in-Err.ensures.refused

pub returns : goal.returns
returns c =
    exact_fault c.args.tokens.now c.told.result
    (told_fault c.args.tokens.now c.in-Err.refusal c.told.result
    (refusal_told c.args.tokens.now.tokens c.in_ok-words.words c.new-watch.result c.build.new.watch c.in_ok-words.ensures c.new-watch.ensures
    c.in-Err.refusal c.in-Err.ensures.refused) c.told.ensures)
