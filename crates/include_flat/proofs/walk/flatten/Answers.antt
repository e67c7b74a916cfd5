use Rattle.include_flat.proofs.Told.{leaves-failed, leaves-stays}
use Rattle.include_flat.proofs.Flat.{found_list, told_list, found_refusal, told_refusal}
use Rattle.include_flat.proofs.walk.flatten.Goals as goal

pub returns-in-Ok-clause-found : goal.returns-in-Ok-clause-found
returns-in-Ok-clause-found g c =
    found_list (g.F.Files.known c.args.files.now) (g.F.Files.known c.walk_file.new.files) c.args.name.now c.all-selected.result c.new-walked.result c.all-selected.ensures c.new-walked.ensures.bytes
    c.new-walked.ensures.problem c.walk_file.new.walked c.into_problem.result c.into_problem.ensures c.in-Ok.ensures.passes

pub returns-in-Ok-clause-told : goal.returns-in-Ok-clause-told
returns-in-Ok-clause-told g c =
    told_list (g.F.Files.known c.args.files.now) (g.F.Files.known c.walk_file.new.files) c.args.name.now c.all-selected.result c.new-walked.result c.all-selected.ensures c.new-walked.ensures.bytes
    c.new-walked.ensures.problem c.walk_file.new.walked c.into_problem.result c.into_problem.ensures c.in-Ok.ensures.passes

pub returns-in-Err-clause-found : goal.returns-in-Err-clause-found
returns-in-Err-clause-found g c =
    found_refusal (g.F.Files.known c.args.files.now) (g.F.Files.known c.walk_file.new.files) c.args.name.now c.all-selected.result c.new-walked.result c.all-selected.ensures c.new-walked.ensures.bytes
    c.new-walked.ensures.problem c.in-Err.refusal.file c.in-Err.refusal.why c.in-Err.ensures.refused

pub returns-in-Err-clause-told : goal.returns-in-Err-clause-told
returns-in-Err-clause-told g c =
    told_refusal (g.F.Files.known c.args.files.now) (g.F.Files.known c.walk_file.new.files) c.args.name.now c.all-selected.result c.new-walked.result c.all-selected.ensures c.new-walked.ensures.bytes
    c.new-walked.ensures.problem c.in-Err.refusal.file c.in-Err.refusal.why c.in-Err.ensures.refused

pub returns-in-Err-clause-failed : goal.returns-in-Err-clause-failed
returns-in-Err-clause-failed g c =
    leaves-failed (g.F.Files.known c.args.files.now) (g.F.Files.known c.walk_file.new.files) c.in-Err.refusal.file c.in-Err.refusal.why
    c.in-Err.ensures.refused.leaves

pub returns-in-Err-clause-stays : goal.returns-in-Err-clause-stays
returns-in-Err-clause-stays g c =
    leaves-stays (g.F.Files.known c.args.files.now) (g.F.Files.known c.walk_file.new.files) c.in-Err.refusal.file c.in-Err.refusal.why
    c.in-Err.ensures.refused.leaves
