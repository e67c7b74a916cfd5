use Rattle.std.proofs.Common.{arith, ap, ◌∙◌, sym, Some}
use Rattle.proof_text.specs.declared.mark.Mark as Mark
use Rattle.proof_text.proofs.Marked.{marked_length, mark_made}
use Rattle.proof_text.proofs.store.TokensSourceToken.mark.Goals as goal

pub kind-requires : goal.kind-requires
kind-requires c = let within = c.requires in omega (arith, within, marked_length 0 c.args.self.now.tokens)

pub text-requires : goal.text-requires
text-requires c = let within = c.requires in omega (arith, within, marked_length 0 c.args.self.now.tokens)

pub returns : goal.returns
returns c =
    mark_made c.args.self.now.tokens c.args.number c.kind.result c.text.result.now c.kind.ensures c.text.ensures.value ∙
    ap (λ (m : Mark.Mark). Some (record { mark = m; number = c.args.number })) (sym c.mark_of.ensures)
