use Rattle.std.proofs.lemmas.Result.{on_ok_weaker}
use Rattle.isar_text.specs.Names.{isar_name}
use Rattle.isar_text.proofs.Joined.{predicate_put}
use Rattle.isar_text.proofs.formula_text.put_predicate.Goals as goal

pub returns : goal.returns
returns c =
    on_ok_weaker c.put_spaced.result
    (predicate_put c.args.out.now (isar_name c.args.predicate.now) c.put_name.new.out c.put_spaced.new.out c.args.args.now c.in_ok-put_name.ensures)
    c.put_spaced.ensures
