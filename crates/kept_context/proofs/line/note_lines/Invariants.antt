use Rattle.std.proofs.Common.{take, sum_by}
use Rattle.kept_context.specs.Lent.{facts_in, args_in}
use Rattle.kept_context.specs.Noted.{Adds, AreNoted}
use Rattle.kept_context.proofs.line.note_lines.Given as goal

-- the first lines are noted
abbrev pub invariant-loop-line : goal.invariant-loop-line
invariant-loop-line l = record {
  noted : AreNoted l.store.facts l.falsum (take l.line-index l.lines);
  adds : Adds (sum_by facts_in (take l.line-index l.lines)) (sum_by args_in (take l.line-index l.lines)) l.fn.store l.store;
}
