use Rattle.std.proofs.Common.{◌+◌, ◌<◌, ◌≤◌, ◌^◌, length, unwrap_or, ap, ◌∙◌, arith}
use Rattle.coherent_form.specs.Gathered.{progress_of}
use Rattle.coherent_form.specs.declared.limits.TheConstants.{MOST_SYMBOLS, MOST_CONSTANTS}
use Rattle.coherent_form.proofs.Finishing.{read_right, kept_is, is_kept}
use Rattle.coherent_form.proofs.NamesKept.{named_given}
use Rattle.coherent_form.proofs.task.finish.Goals as goal

pub append_built_ins-requires-clause-arities : goal.append_built_ins-requires-clause-arities
append_built_ins-requires-clause-arities c = (read_right (progress_of c.args.reading) c.requires.from).arities

pub append_built_ins-requires-clause-given : goal.append_built_ins-requires-clause-given
append_built_ins-requires-clause-given c = named_given (length c.args.reading.names.keys) c.args.reading.sources.keys c.requires.reading.named.of_forms

pub invariant_of-result : goal.invariant_of-result
invariant_of-result c =
    let r = c.args.reading in
    let names : length r.names.keys < 2 ^ 32 = let few = c.if-len.false in let len = c.len.ensures.len in omega arith in
    let symbols : length r.tables.symbols + 1 ≤ MOST_SYMBOLS = let few = c.if-symbols-gt-MOST_SYMBOLS.false in let count = c.symbols.ensures.count in omega arith in
    let constants : length r.tables.constants ≤ MOST_CONSTANTS = let few = c.if-constants-gt-MOST_CONSTANTS.false in let count = c.constants.ensures.count in omega arith in (
      is_kept r c.unwrap_or-goal.result c.append_built_ins.new.forms c.append_built_ins.new.sources.keys c.requires.reading c.requires.from
          (c.unwrap_or-goal.ensures ∙ ap (unwrap_or r.goal) c.no_goal.ensures) c.in_ok-append_built_ins.ensures.forms c.in_ok-append_built_ins.ensures.sources names symbols constants,
      c.prefix_letters-letters.ensures,
    )

pub returns : goal.returns
returns c =
    let r = c.args.reading in
    kept_is r c.unwrap_or-goal.result c.append_built_ins.new.forms c.append_built_ins.new.sources.keys c.requires.reading c.requires.from
    (c.unwrap_or-goal.ensures ∙ ap (unwrap_or r.goal) c.no_goal.ensures) c.in_ok-append_built_ins.ensures.forms c.in_ok-append_built_ins.ensures.sources
