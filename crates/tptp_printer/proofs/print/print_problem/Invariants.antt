use Rattle.std.proofs.Common.{◌≡◌, ◌++◌, drop}
use Rattle.std.specs.List.{AllByRecursion}
use Rattle.logic_core.specs.declared.problem.Item.TheVariants.{Fof as ItemFof}
use Rattle.tptp_printer.specs.Canonical.{problem_text}
use Rattle.tptp_printer.specs.Named.{ItemIsNamed}
use Rattle.tptp_printer.proofs.print.print_problem.Given as goal

-- what is printed, and what the other formulas add
abbrev pub invariant-loop-fof : goal.invariant-loop-fof
invariant-loop-fof l = record {
  text : l.bytes ++ problem_text (drop l.fof-index l.fof-items) ≡ problem_text l.problem;
  named : AllByRecursion (λ fof. ItemIsNamed (ItemFof fof)) (drop l.fof-index l.fof-items) → AllByRecursion (λ fof. ItemIsNamed (ItemFof fof)) l.problem;
}
