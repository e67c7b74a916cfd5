use Rattle.std.proofs.Common.{◌≡◌, ◌++◌, ◌+◌, ◌-◌, List, ℕ, Some, get_or, length, refl, ap, sym, ◌∙◌, subst, arith, append_assoc}
use Rattle.std.proofs.lemmas.Option.{get_or_from_slice_get}
use Rattle.text_core.proofs.Laws.{each_get}
use Rattle.logic_core.specs.declared.form.Form.{Form}
use Rattle.vernacular_tree.specs.Contexts.{counted, after_mp}
use Rattle.coherent_form.specs.Fitting.{FormFits}
use Rattle.kept_context.specs.Kept.{Kept, Represents, HasRoom}
use Rattle.kept_context.specs.Cased.{line_made}
use Rattle.kept_context.proofs.Represented.{form_represented}
use Rattle.kept_context.proofs.Rooms.{room_applied}
use Rattle.kept_context.proofs.kept.KeptContext.apply.Goals as goal

pub returns-clause-represents : goal.returns-clause-represents
returns-clause-represents c lent context f is at =
    let task = c.args.task.now in
    let args = c.args.args.now in
    let inside = c.self.inside in
    let read = c.index-as_slice-form.result in
    let start = c.len-start.result in
    let same : read ≡ f = c.index-as_slice-form.is ∙ ap (λ (fs : List Form). get_or fs c.args.form read) (c.as_slice.ensures ∙ c.forms.ensures.value)
    ∙ get_or_from_slice_get task.forms c.args.form f read at in
    let new : Kept = record {
      store = c.note_lists.new.store;
      lines = c.push_within.new.items.items;
      values = c.count_within.new.items.items;
      elements = inside.elements + read.existentials;
      falsum = c.note_lists.new.falsum;
      line_room = inside.line_room;
      value_room = inside.value_room;
    } in
    let before = subst (λ (k : Kept). Represents task lent k context) (sym c.self.view_is) is in
    let values = c.count_within.ensures.items ∙ ap (λ (vs : List ℕ). vs ++ counted inside.elements read.existentials) c.extend_within.ensures.items
    ∙ append_assoc inside.values.items args (counted inside.elements read.existentials) in
    let start_is : start ≡ length inside.values.items = omega (arith, c.len-start.ensures, inside.values.ok.0) in
    let count_is : c.len.result - start ≡ length c.count_within.new.items.items - start = omega (arith, c.len.ensures, c.count_within.new.items.ok.0) in
    let noted = rw (c.as_slice-2.ensures.value, c.as_slice-3.ensures) at c.note_lists.ensures.noted in
    subst (λ (g : Form). Represents task lent new (after_mp context g args)) same
    (form_represented task lent _ new context read c.args.form start (c.len.result - start) args c.own_line.result before (at ∙ ap Some (sym same))
    values start_is count_is noted (c.own_line.ensures ∙ ap (λ n. line_made n c.args.form start (c.len.result - start)) c.len-2.ensures)
    c.push_within.ensures.items refl)

pub returns-clause-room : goal.returns-clause-room
returns-clause-room c more room =
    let task = c.args.task.now in
    let args = c.args.args.now in
    let inside = c.self.inside in
    let read = c.index-as_slice-form.result in
    let given = c.requires.instance in
    let same : read ≡ given.0 = c.index-as_slice-form.is ∙ ap (λ (fs : List Form). get_or fs c.args.form read) (c.as_slice.ensures ∙ c.forms.ensures.value)
    ∙ get_or_from_slice_get task.forms c.args.form given.0 read given.1 in
    let fits : FormFits task.tables read = subst (FormFits task.tables) (sym same) (each_get (FormFits task.tables) task.forms c.args.form given.0 c.forms.ensures.right.forms given.1) in
    let new : Kept = record {
      store = c.note_lists.new.store;
      lines = c.push_within.new.items.items;
      values = c.count_within.new.items.items;
      elements = inside.elements + read.existentials;
      falsum = c.note_lists.new.falsum;
      line_room = inside.line_room;
      value_room = inside.value_room;
    } in
    let values = c.count_within.ensures.items ∙ ap (λ (vs : List ℕ). vs ++ counted inside.elements read.existentials) c.extend_within.ensures.items
    ∙ append_assoc inside.values.items args (counted inside.elements read.existentials) in
    room_applied task _ new c.own_line.result read args c.note_lists.ensures.adds c.push_within.ensures.items values refl refl
    (given.2 ∙ ap (λ (g : Form). g.universals) (sym same)) fits.narrow refl more (subst (HasRoom task (more + 1)) (sym c.self.view_is) room)
