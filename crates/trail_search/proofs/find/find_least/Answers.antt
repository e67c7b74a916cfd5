use Rattle.trail_search.proofs.Rooms.{lent_ready}
use Rattle.trail_search.proofs.Told.{told_least, told_noted}
use Rattle.trail_search.proofs.find.find_least.Goals as goal

pub look_least-least-requires-clause-ready : goal.look_least-least-requires-clause-ready
look_least-least-requires-clause-ready c =
    lent_ready c.args.scene.now.task.now c.args.scene.now.answers.now c.args.scene.now.lent.now c.args.within c.enter.new.self c.requires.few c.requires.task c.requires.answers c.requires.few_answers
    c.requires.lent c.enter.ensures.represents (c.enter.ensures.room c.args.within c.requires.few c.requires.room c.requires.spare)

pub returns-clause-least : goal.returns-clause-least
returns-clause-least c =
    let told = c.look_least-least.ensures in
    told_least c.args.scene.now.task.now c.args.scene.now.lent.now c.args.found.now c.look_least-least.new.found
    c.look_least-least.result told.noted told.least

pub returns-clause-noted : goal.returns-clause-noted
returns-clause-noted c =
    let told = c.look_least-least.ensures in
    told_noted c.args.scene.now.task.now c.args.scene.now.lent.now c.args.found.now c.look_least-least.new.found
    c.look_least-least.result told.noted told.least
