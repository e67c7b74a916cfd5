use Rattle.std.proofs.Common.{take}
use Rattle.model_search.specs.Sheets.{Grows, GoesIf, Implies}
use Rattle.model_search.proofs.sheet.Sheet.imply_each.Given as goal

-- the clauses of the first atoms are there
abbrev pub invariant-loop-fact : goal.invariant-loop-fact
invariant-loop-fact l = record {
  grows : Grows l.initial.self l.self;
  suited : GoesIf (Implies l.initial.self l.variable (take l.fact-index l.grounds)) l.initial.self l.self;
}
