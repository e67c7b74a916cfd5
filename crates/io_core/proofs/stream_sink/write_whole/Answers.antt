use Rattle.std.proofs.Common.{arith, length-drop}
use Rattle.std.proofs.Math.Seq.{take-add}
use Rattle.std.proofs.lemmas.List.{take_rest}
use Rattle.std.proofs.KnownBytes.{Appends-trans}
use Rattle.io_core.proofs.stream_sink.write_whole.Goals as goal

pub loop-at-preserved : goal.loop-at-preserved
loop-at-preserved g c =
    let piece = c.args.piece.now in
    let taken = rw (take_rest piece c.loop-at.at) at c.in-Ok.ensures.bound in
    let wrote = rw (take_rest piece c.loop-at.at) at c.in-Ok.ensures.bytes in
    record {
      within = omega (arith, taken, length-drop c.loop-at.at piece, c.loop-at.invariant.within);
      written = rw (take-add c.loop-at.at c.in-Ok.count piece) (Appends-trans _ _ _ _ _ c.loop-at.invariant.written wrote);
    }
