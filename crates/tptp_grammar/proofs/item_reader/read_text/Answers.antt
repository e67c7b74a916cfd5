use Rattle.std.proofs.Common.{◌<◌, ◌≤◌, ◌≡◌, ◌+◌, ◌∷◌, [], ap, ◌∙◌, length, length-append, arith}
use Rattle.std.proofs.lemmas.Result.{err_from_is_err_and}
use Rattle.logic_core.specs.Allowed.{ItemIsAllowed}
use Rattle.text_core.specs.declared.limits.TheConstants.{MOST_LEVELS}
use Rattle.tptp_grammar.proofs.ItemLoop.{item_left, one_read, gives_up, all_read, is_one}
use Rattle.tptp_grammar.proofs.item_reader.read_text.Goals as goal

pub returns-in_err-item : goal.returns-in_err-item
returns-in_err-item c =
    let p = err_from_is_err_and c.from_residual.result c.from_residual.ensures.1 in
    let some : 0 < length c.loop-rest.rest = omega arith in
    rw (p.1, p.2) (gives_up MOST_LEVELS c.args.tokens.now.tokens c.in_err-item.field-0.0 c.loop-rest.items c.loop-rest.rest some c.in_err-item.ensures c.loop-rest.invariant)

pub push-requires : goal.push-requires
push-requires c =
    let some : 0 < length c.loop-rest.rest = omega arith in
    is_one ItemIsAllowed MOST_LEVELS c.args.tokens.now.tokens c.loop-rest.items c.loop-rest.rest c.in_ok-item.tail c.in_ok-item.item c.requires.items some c.in_ok-item.ensures c.loop-rest.invariant c.requires.is_read c.requires.allowed

pub loop-rest-smaller : goal.loop-rest-smaller
loop-rest-smaller c =
    let some : 0 < length c.loop-rest.rest = omega arith in
    let left = item_left MOST_LEVELS c.args.tokens.now.tokens c.loop-rest.items c.loop-rest.rest c.requires.items some c.loop-rest.invariant c.requires.is_read in
    let longer : length c.push.new.self ≡ length c.loop-rest.items + 1 = ap length c.in_ok-push.ensures.ok ∙ length-append c.loop-rest.items (c.in_ok-item.item ∷ []) in
    omega arith

pub loop-rest-preserved : goal.loop-rest-preserved
loop-rest-preserved c =
    let some : 0 < length c.loop-rest.rest = omega arith in
    let left = item_left MOST_LEVELS c.args.tokens.now.tokens c.loop-rest.items c.loop-rest.rest c.requires.items some c.loop-rest.invariant c.requires.is_read in
    one_read MOST_LEVELS c.args.tokens.now.tokens c.loop-rest.items c.push.new.self c.loop-rest.rest c.in_ok-item.tail c.in_ok-item.item some left c.in_ok-push.ensures.ok c.in_ok-item.ensures c.loop-rest.invariant

pub returns : goal.returns
returns c =
    let none : length c.loop-rest.rest ≤ 0 = omega arith in
    all_read MOST_LEVELS c.args.tokens.now.tokens c.loop-rest.items c.loop-rest.rest none c.loop-rest.invariant
