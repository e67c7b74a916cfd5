use Rattle.std.specs.Prelude.{IsSomeAnd, IsTrue}
use Rattle.std.proofs.Common.{subst, sym}
use Rattle.tptp_lexer.specs.Columns.{is_name}
use Rattle.proof_text.proofs.Marked.{named_kind, name_read}
use Rattle.proof_text.proofs.store.name_at.Goals as goal

pub name-requires : goal.name-requires
name-requires c =
    let (k, at, names) = named_kind c.args.tokens.now.tokens c.args.number c.args.naming c.args.token c.requires.at c.requires.named in
    subst (λ kind. IsSomeAnd kind (λ k. IsTrue (is_name k))) (sym at) names

pub returns : goal.returns
returns c = name_read c.args.tokens.now.tokens c.args.number c.args.token c.requires.at c.name.result c.name.ensures
