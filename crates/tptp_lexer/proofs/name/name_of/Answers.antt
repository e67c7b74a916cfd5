use Rattle.std.proofs.Common.{◌≡◌, ◌≢◌, [], true, sym, ◌∙◌, subst, ap, arith, IfOk}
use Rattle.text_core.specs.Names.{Text}
use Rattle.tptp_lexer.specs.Kinds.{is_body}
use Rattle.tptp_lexer.specs.Tokens.{named, unescaped}
use Rattle.tptp_lexer.proofs.Names.{quotation, plain_name}
use Rattle.tptp_lexer.proofs.name.name_of.Goals as goal

pub overflow_sub-text : goal.overflow_sub-text
overflow_sub-text c = let q = quotation c.args.kind c.args.text.now c.requires.token c.in-Quoted.is in let l = q.long in omega arith

pub slice_bounds-unescaped_name-count : goal.slice_bounds-unescaped_name-count
slice_bounds-unescaped_name-count c = let q = quotation c.args.kind c.args.text.now c.requires.token c.in-Quoted.is in let l = q.long in omega arith

pub slice_bounds-unescaped_name-start : goal.slice_bounds-unescaped_name-start
slice_bounds-unescaped_name-start c = let q = quotation c.args.kind c.args.text.now c.requires.token c.in-Quoted.is in let l = q.long in omega arith

pub unescaped_name-requires-clause-some : goal.unescaped_name-requires-clause-some
unescaped_name-requires-clause-some c = let q = quotation c.args.kind c.args.text.now c.requires.token c.in-Quoted.is in subst (λ (xs : Text). xs ≢ []) (sym q.inner) q.some

pub unescaped_name-requires-clause-body : goal.unescaped_name-requires-clause-body
unescaped_name-requires-clause-body c = let q = quotation c.args.kind c.args.text.now c.requires.token c.in-Quoted.is in subst (λ (xs : Text). is_body 39 xs ≡ true) (sym q.inner) q.body

pub from_bytes-requires : goal.from_bytes-requires
from_bytes-requires c = plain_name c.args.kind c.args.text.now c.requires.token c.requires.named c.in_default.not-Quoted

pub returns-in-Quoted : goal.returns-in-Quoted
returns-in-Quoted c =
    let q = quotation c.args.kind c.args.text.now c.requires.token c.in-Quoted.is in
    subst (λ (xs : Text). IfOk c.unescaped_name.result (λ (name : Text). name ≡ xs)) (ap unescaped q.inner ∙ ap (λ k. named k c.args.text.now) (sym c.in-Quoted.is)) c.unescaped_name.ensures
