use Rattle.std.proofs.Common.{◌≡◌, ◌++◌, drop}
use Rattle.proof_text.specs.ScriptOf.{variables_of, binds_of}
use Rattle.proof_text.proofs.step.binds_of.Given as goal

-- the bindings so far, and those that follow
abbrev pub invariant-loop-variable : goal.invariant-loop-variable
invariant-loop-variable l = l.binds ++ binds_of l.task (variables_of l.task l.form) l.variable (drop l.variable l.args)
    ≡ binds_of l.task (variables_of l.task l.form) 0 l.args
