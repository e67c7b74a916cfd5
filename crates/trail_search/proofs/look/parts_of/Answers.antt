use Rattle.std.proofs.Common.{◌≡◌, ◌∙◌}
use Rattle.trail_search.proofs.Planned.{answers_are}
use Rattle.trail_search.proofs.look.parts_of.Goals as goal

pub returns : goal.returns
returns c = record {
  forms_are = c.as_slice.ensures ∙ c.forms.ensures.value;
  answers_are = answers_are c.args.scene.now.task.now c.requires.task c.args.scene.now.answers.now c.requires.answers;
  lines_are = c.as_slice-2.ensures;
}
