use Rattle.std.proofs.Common.{◌≡◌, length, ap, arith}
use Rattle.isar_text.specs.Values.{Lexed}
use Rattle.isar_text.proofs.Marked.{form_seen}
use Rattle.isar_text.proofs.token_list.IsarTokens.cite.Goals as goal

pub overflow_sub-number : goal.overflow_sub-number
overflow_sub-number c =
    let there = form_seen (length c.args.self.now.task.forms) c.args.self.now.tokens c.args.number c.args.token c.requires.at c.requires.form in
    let low = there.0 in
    let told = c.number.ensures in omega arith

pub citation-requires : goal.citation-requires
citation-requires c =
    let there = form_seen (length c.args.self.now.task.forms) c.args.self.now.tokens c.args.number c.args.token c.requires.at c.requires.form in
    let low = there.0 in
    let high = there.1 in
    let told = c.number.ensures in
    let same : length c.self.inside.task.now.forms ≡ length c.args.self.now.task.forms = ap (λ (v : Lexed). length v.task.forms) c.self.view_is in omega arith
