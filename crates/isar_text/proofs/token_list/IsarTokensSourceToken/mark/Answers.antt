use Rattle.std.proofs.Common.{◌≡◌, ℕ, length, arith, ap, ◌∙◌, sym, Some}
use Rattle.isar_text.specs.declared.mark.Mark as Mark
use Rattle.isar_text.specs.Marks.{mark_of}
use Rattle.isar_text.specs.Values.{Lexed}
use Rattle.isar_text.proofs.Marked.{marked_length, mark_made}
use Rattle.isar_text.proofs.token_list.IsarTokensSourceToken.mark.Goals as goal

pub text-requires : goal.text-requires
text-requires c = let within = c.requires in omega (arith, within, marked_length (length c.args.self.now.task.forms) 0 c.args.self.now.tokens)

pub returns : goal.returns
returns c =
    let forms : c.len.result ≡ length c.args.self.now.task.forms =
    c.len.ensures ∙ (ap length c.forms.ensures.value ∙ ap (λ (v : Lexed). length v.task.forms) c.self.view_is) in
    mark_made (length c.args.self.now.task.forms) c.args.self.now.tokens c.args.number c.text.result.now c.text.ensures ∙
    ap (λ (m : Mark.Mark). Some (record { mark = m; number = c.args.number })) (sym (c.mark_of.ensures ∙ ap (λ (n : ℕ). mark_of n c.text.result.now) forms))
