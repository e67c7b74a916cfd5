use Rattle.std.proofs.Common.{length}
use Rattle.isar_text.proofs.Marked.{seen_within, seen_written, name_seen}
use Rattle.isar_text.proofs.token_list.IsarTokens.name.Goals as goal

pub text-requires : goal.text-requires
text-requires c = seen_within (length c.args.self.now.task.forms) c.args.self.now.tokens c.args.number c.args.token c.requires.at

pub name_of-requires : goal.name_of-requires
name_of-requires c = seen_written (length c.args.self.now.task.forms) c.args.self.now.tokens c.args.number c.args.token c.text.result.now c.requires.at c.text.ensures c.requires.named

pub returns : goal.returns
returns c = name_seen (length c.args.self.now.task.forms) c.args.self.now.tokens c.args.number c.args.token c.text.result.now c.requires.at c.text.ensures c.name_of.result c.name_of.ensures
