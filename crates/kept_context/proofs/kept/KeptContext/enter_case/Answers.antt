use Rattle.std.proofs.Common.{length, refl, ap, sym, ◌∙◌, subst, append-nil}
use Rattle.std.specs.List.{AllByRecursion}
use Rattle.vernacular_tree.specs.declared.context.Line.TheVariants as line
use Rattle.kept_context.specs.Kept.{Kept, IsWithin, Represents}
use Rattle.kept_context.specs.Cased.{lines_seen, case_at}
use Rattle.kept_context.specs.declared.kept.OwnLine.TheVariants as own
use Rattle.kept_context.proofs.Noting.{lines_small}
use Rattle.kept_context.proofs.Represented.{line_represented}
use Rattle.kept_context.proofs.Casing.{case_found}
use Rattle.kept_context.proofs.kept.KeptContext.enter_case.Goals as goal

pub add_case-requires-clause-small : goal.add_case-requires-clause-small
add_case-requires-clause-small c =
    rw c.as_slice.ensures (lines_small c.args.task.now.tables c.args.lent.now.elements c.self.inside.store.signed c.args.lent.now.lines
    (ap (λ (k : Kept). k.store.signed) c.self.view_is ∙ c.requires.room.signed) c.requires.lent.lines)

pub add_case-requires-clause-within : goal.add_case-requires-clause-within
add_case-requires-clause-within c =
    rw (c.as_slice-2.ensures.value, c.as_slice-3.ensures.value)
    (subst (λ (k : Kept). AllByRecursion (IsWithin (length k.values)) k.lines) (sym c.self.view_is) c.requires.there.2.within)

pub returns-clause-represents : goal.returns-clause-represents
returns-clause-represents c context lists facts is at there =
    let task = c.args.task.now in
    let lent = c.args.lent.now in
    let before = subst (λ (k : Kept). Represents task lent k context) (sym c.self.view_is) is in
    let found = (λ i. case_at (lines_seen task (c.as_slice.ensures i) (c.as_slice-2.ensures.value i) (c.as_slice-3.ensures.value i)) c.args.line c.args.case)
    ∙ case_found task lent _ c.args.line c.args.case context lists facts before at there in
    line_represented task lent _ _ context (line.Facts facts) own.Facts _ context.elements before (c.add_case.ensures.noted facts c.self.inside.falsum found)
    c.push_within.ensures.items (sym (append-nil c.self.inside.values.items)) tt refl before.elements_are
