use Rattle.std.proofs.Common.{sym, ◌∙◌, subst}
use Rattle.std.proofs.lemmas.Result.{err_from_is_err_and}
use Rattle.tptp_lexer.specs.Refused.{IsExplained}
use Rattle.tptp_lexer.proofs.Exact.{one_list, never_both, refused_exactly}
use Rattle.tptp_lexer.proofs.lexer.tokens.Goals as goal

pub returns-in_err-spans-clause-found : goal.returns-in_err-spans-clause-found
returns-in_err-spans-clause-found c ts h =
    let p = err_from_is_err_and c.from_residual.result c.from_residual.ensures.1 in
    rw p.1 ((refused_exactly c.args.source.now p.0 (subst (λ a. IsExplained a c.args.source.now) (sym p.2) c.in_err-spans.ensures.refused)).found ts h)

pub returns-in_err-spans-clause-told : goal.returns-in_err-spans-clause-told
returns-in_err-spans-clause-told c fault h =
    let p = err_from_is_err_and c.from_residual.result c.from_residual.ensures.1 in
    rw p.1 ((refused_exactly c.args.source.now p.0 (subst (λ a. IsExplained a c.args.source.now) (sym p.2) c.in_err-spans.ensures.refused)).told fault h)

pub returns-clause-found : goal.returns-clause-found
returns-clause-found c ts h = c.new.ensures.tokens ∙ one_list c.args.source.now _ ts c.in_ok-spans.ensures.tokens h

pub returns-clause-told : goal.returns-clause-told
returns-clause-told c fault h = never_both c.args.source.now _ fault c.in_ok-spans.ensures.tokens h
