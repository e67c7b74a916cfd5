use Rattle.std.proofs.Common.{ap, ◌∙◌}
use Rattle.std.proofs.lemmas.List.{length-set}
use Rattle.instance_cursor.proofs.Turns.{written_more}
use Rattle.instance_cursor.proofs.space.Space.write_instance.Goals as goal

pub loop-variable-preserved : goal.loop-variable-preserved
loop-variable-preserved c =
    let on = c.loop-variable.invariant in record {
      written = written_more c.args.self.now c.args.picks.now c.loop-variable.args c.self.inside.origins.now c.loop-variable.variable c.read.result (record { depth = 0; position = 0 })
          (ap (λ s. s.origins) c.self.view_is) c.loop-variable-test.true on.size on.written c.read.ensures;
      size = length-set c.loop-variable.args c.loop-variable.variable c.read.result ∙ on.size;
    }
