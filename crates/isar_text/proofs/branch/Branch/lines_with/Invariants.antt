use Rattle.std.proofs.Common.{◌≡◌, ◌<◌, ◌^◌, take, drop}
use Rattle.std.specs.List.{AllByRecursion}
use Rattle.instance_cursor.specs.Facts.{signed_number}
use Rattle.isar_text.specs.Bodies.{lines_with}
use Rattle.isar_text.proofs.branch.Branch.lines_with.Given as goal

-- the lines of the first atoms; the symbols of the others are small
abbrev pub invariant-loop-atom : goal.invariant-loop-atom
invariant-loop-atom l = record {
  lines : l.lines ≡ lines_with l.self.context l.elements (take l.atom-index l.atoms);
  others : AllByRecursion (λ atom. signed_number atom < 2 ^ 32) (drop l.atom-index l.atoms);
}
