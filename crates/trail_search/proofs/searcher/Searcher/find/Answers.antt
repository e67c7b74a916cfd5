use Rattle.std.proofs.Common.{length, ap, ◌∙◌, arith}
use Rattle.coherent_form.specs.Tasks.{proof_task}
use Rattle.trail_search.proofs.Told.{told_kept, told_tree, all_written, prepared_again}
use Rattle.trail_search.proofs.searcher.Searcher.find.Goals as goal

pub invariant_of-self : goal.invariant_of-self
invariant_of-self c =
    let inside = c.self.inside in
    let was = c.self.invariant in
    let told = c.find_least-self-inside.ensures in
    let new = c.find_least-self-inside.new in
    let same = c.find_least-self-inside.auto.cursors ∙ ap length c.as_mut_slice.ensures.value in
    let within = c.requires.within in
    let most = ap (λ s. s.most) c.self.view_is in
    let few = was.few in
    prepared_again inside.task.now inside.most inside.facts inside.args c.args.within inside.answers inside.kept new.kept inside.cursors.items _ new.cursors inside.noted new.found
    inside.found c.find_least-self-inside.result was told.kept (all_written inside.cursors.items new.cursors inside.cursors.len inside.cursors.ok.0 same) same told.cursors
    (told.room ∙ c.back.ensures.room)
    (told_tree (proof_task inside.task.now) c.args.context.now c.back.new.self.nodes new.found.nodes c.back.ensures.nodes c.args.within c.find_least-self-inside.result (omega arith)
    told.within told.noted)

pub returns-clause-kept : goal.returns-clause-kept
returns-clause-kept c =
    let told = c.find_least-self-inside.ensures in
    rw (← (ap (λ s. s.task) c.self.view_is))
    (told_kept (proof_task c.self.inside.task.now) c.args.context.now c.back.new.self.nodes c.find_least-self-inside.new.found.nodes c.back.ensures.nodes
    c.find_least-self-inside.result told.noted)
