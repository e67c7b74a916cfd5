use Rattle.clause_solver.proofs.working.Working.remove.Goals as goal

pub returns-then-place-len : goal.returns-then-place-len
returns-then-place-len c = λ sigma true. rw c.note_place.ensures (c.if-not-take_out.ensures sigma true)
