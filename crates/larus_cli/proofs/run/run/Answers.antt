use Rattle.logic_core.specs.Truth.{structure}
use Rattle.larus_cli.proofs.Outcomes.{follows_of, confirmed_of, refuted_of, sized_of, proved_of, none_of, printed_of, rewritten_of, isar_of, exported_of, usage_only, no_command, fetch_rose, unasked_fetch, put_rose, nothing_put, statuses_of}
use Rattle.larus_cli.proofs.Completing.{complete_of, success_of}
use Rattle.larus_cli.proofs.run.run.Goals as goal

pub returns-clause-sound : goal.returns-clause-sound
returns-clause-sound g c k problem proof are done =
    follows_of (structure (g.W.World.element k) (g.W.World.holds k) (g.W.World.place k))
    (λ formulas task body. c.proved_task_follows.ensures formulas task body k) c.answer.ensures.outcome problem proof are done

pub returns-clause-refuted : goal.returns-clause-refuted
returns-clause-refuted g c problem size some few are done = refuted_of c.answer.ensures.outcome problem size some few are done

pub returns-clause-none_sized : goal.returns-clause-none_sized
returns-clause-none_sized g c problem size some few are none = sized_of c.answer.ensures.outcome problem size some few are none

pub returns-clause-confirmed : goal.returns-clause-confirmed
returns-clause-confirmed g c problem model are done = confirmed_of c.countermodels_exclude_proofs.ensures c.answer.ensures.outcome problem model are done

pub returns-clause-proved : goal.returns-clause-proved
returns-clause-proved g c problem most few are done = proved_of c.answer.ensures.outcome problem most few are done

pub returns-clause-none : goal.returns-clause-none
returns-clause-none g c problem most few are none = none_of c.answer.ensures.outcome problem most few are none

pub returns-clause-printed : goal.returns-clause-printed
returns-clause-printed g c problem are done = printed_of c.answer.ensures.outcome problem are done

pub returns-clause-rewritten : goal.returns-clause-rewritten
returns-clause-rewritten g c edition problem proof are done = rewritten_of c.answer.ensures.outcome edition problem proof are done

pub returns-clause-from_isar : goal.returns-clause-from_isar
returns-clause-from_isar g c problem text are done = isar_of c.answer.ensures.outcome problem text are done

pub returns-clause-exported : goal.returns-clause-exported
returns-clause-exported g c problem proof are done = exported_of c.answer.ensures.outcome problem proof are done

pub returns-clause-complete : goal.returns-clause-complete
returns-clause-complete g c held problem aim asks holding can fault = complete_of c.answer.ensures.outcome held problem aim asks holding can fault

pub returns-clause-succeeds : goal.returns-clause-succeeds
returns-clause-succeeds g c held problem aim asks holding can fault = success_of c.answer.ensures.outcome held problem aim asks holding can fault

pub returns-clause-no_fetch : goal.returns-clause-no_fetch
returns-clause-no_fetch g c unasked is = unasked_fetch c.answer.ensures.outcome unasked is

pub returns-clause-fetch_fault : goal.returns-clause-fetch_fault
returns-clause-fetch_fault g c is = fetch_rose c.answer.ensures.outcome is

pub returns-clause-usage_only : goal.returns-clause-usage_only
returns-clause-usage_only g c is = usage_only c.answer.ensures.outcome is

pub returns-clause-no_command : goal.returns-clause-no_command
returns-clause-no_command g c = no_command c.answer.ensures.outcome

pub returns-clause-put_fault : goal.returns-clause-put_fault
returns-clause-put_fault g c is = put_rose c.answer.ensures.outcome is

pub returns-clause-out_of_memory : goal.returns-clause-out_of_memory
returns-clause-out_of_memory g c is = nothing_put c.answer.ensures.outcome is

pub returns-clause-statuses : goal.returns-clause-statuses
returns-clause-statuses g c = statuses_of c.answer.ensures.outcome
