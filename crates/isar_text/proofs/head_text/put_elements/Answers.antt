use Rattle.std.proofs.Common.{◌∷◌, [], ◌++◌, ◌∙◌, ap, map, append_assoc}
use Rattle.text_core.specs.Names.{Text}
use Rattle.vernacular_tree.specs.Contexts.{counted}
use Rattle.isar_text.specs.Names.{isar_name}
use Rattle.isar_text.specs.Heads.{element_text, spaced}
use Rattle.isar_text.proofs.HeadWritten.{next_element}
use Rattle.isar_text.proofs.head_text.put_elements.Goals as goal

pub loop-element-preserved : goal.loop-element-preserved
loop-element-preserved c =
    let task = c.args.task.now in
    next_element task c.loop-element.out c.put_name.new.out (c.args.out.now ++ spaced (map (element_text task) (counted 0 c.args.count))) c.loop-element.element
    c.args.count c.loop-element-test.true
    (c.in_ok-put_name.ensures ∙ ap (λ (t : Text). c.push.new.self ++ isar_name t) c.in_ok-name.ensures
    ∙ ap (λ (t : Text). t ++ element_text task c.loop-element.element) c.in_ok-push.ensures.ok
    ∙ append_assoc c.loop-element.out (32 ∷ []) (element_text task c.loop-element.element))
    c.loop-element.invariant
