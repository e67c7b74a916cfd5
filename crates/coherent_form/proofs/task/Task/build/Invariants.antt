use Rattle.std.proofs.Common.{◌≡◌, take}
use Rattle.coherent_form.specs.Gathered.{IsReading, progress_of}
use Rattle.coherent_form.specs.Tasks.{AreTaken, after_formulas, nothing_read}
use Rattle.coherent_form.proofs.task.Task.build.Given as goal

-- the formulas so far are taken, and this is what they gave
abbrev pub invariant-loop-fof : goal.invariant-loop-fof
invariant-loop-fof l = record {
  formula : l.formula ≡ l.fof-index;
  reading : IsReading l.reading;
  taken : AreTaken nothing_read (take l.fof-index l.fof-items);
  progress : progress_of l.reading ≡ after_formulas nothing_read (take l.fof-index l.fof-items);
}
