use Rattle.std.specs.List.{AllByRecursion}
use Rattle.proof_text.specs.Named.{CaseIsNamed}
use Rattle.std.proofs.Common.{◌≡◌, ◌++◌, drop, flat_map}
use Rattle.proof_text.specs.Canonical.{case_text}
use Rattle.proof_text.proofs.writer.+body.Given as goal

-- what is appended, and what the other cases add
abbrev pub invariant-put_cases-loop-case : goal.invariant-put_cases-loop-case
invariant-put_cases-loop-case l = record {
  text : l.out ++ flat_map (case_text l.level) (drop l.case-index l.cases) ≡ l.fn.out ++ flat_map (case_text l.level) l.cases;
  named : AllByRecursion CaseIsNamed (drop l.case-index l.cases) → AllByRecursion CaseIsNamed l.cases;
}
