use Rattle.std.proofs.Common.{◌≡◌, ◌<◌, List, [], ◌∷◌, length, refl, sym, ap, ◌∙◌, arith, rules}
use Rattle.std.specs.Vec.Iter.{into_iter_items}
use Rattle.include_flat.specs.Progress.{selections_of}
use Rattle.io_core.proofs.Laws.{stays_same}
use Rattle.include_flat.proofs.Told.{if_ok, if_err}
use Rattle.include_flat.proofs.Passing.{depth_refused, file_passes, formula_on, formula_ends, inclusion_on, inclusion_ends, underway_all}
use Rattle.include_flat.proofs.Alike.{passes_within, refuses_within}
use Rattle.include_flat.proofs.walk.+walk.Goals as goal

nothing_left : {A : Type 0} (items : List A) → length items ≡ 0 → items ≡ []
nothing_left [] none = refl
nothing_left (x ∷ items) none = absurd (omega arith)

pub walk_file-returns-then-left-eq0-clause-refused : goal.walk_file-returns-then-left-eq0-clause-refused
walk_file-returns-then-left-eq0-clause-refused g t c =
    let files = g.F.Files.known c.args.files.now in
    let refusal = c.of-then-left-eq0 in
    depth_refused (selections_of c.args.selected.now) c.args.name.now c.in-Ok.file files files c.args.walked.now c.args.left c.in-Ok.ensures
    refusal.result.file refusal.result.why c.if-left-eq0.true (stays_same files) refusal.ensures.file refusal.ensures.why

pub walk_file-returns-in-Ok-fetched_items-clause-passes : goal.walk_file-returns-in-Ok-fetched_items-clause-passes
walk_file-returns-in-Ok-fetched_items-clause-passes g t c =
    let some : 0 < c.args.left = let none = c.if-left-eq0.false in omega arith in
    if_ok c.walk_items.result _ _
    (λ done p. file_passes (selections_of c.args.selected.now) c.args.name.now c.in-Ok.file (g.F.Files.known c.args.files.now) (g.F.Files.known c.walk_items.new.files)
    c.args.walked.now c.args.left c.in-Ok.ensures (g.F.Files.known c.fetched_items.new.files) c.in-Ok-fetched_items.items c.fetched_items.new.walked some
    c.in-Ok-fetched_items.ensures.opens c.walk_items.new.walked p)
    c.walk_items.ensures.passes

pub walk_inclusion-returns-in-Ok-clause-passes : goal.walk_inclusion-returns-in-Ok-clause-passes
walk_inclusion-returns-in-Ok-clause-passes g t c =
    if_ok c.walk_file-in-Ok.result _ _
    (λ done p. passes_within c.args.left (selections_of c.in-Ok.inner) (selections_of c.args.selected.now) c.args.only c.in-Some.names
    c.bytes-in-Ok.result.now c.args.name (g.F.Files.known c.args.files.now) (g.F.Files.known c.walk_file-in-Ok.new.files) c.args.walked.now c.in-Some.is
    c.bytes-in-Ok.ensures.value c.in-Ok.ensures c.walk_file-in-Ok.new.walked p)
    c.walk_file-in-Ok.ensures.passes

pub walk_inclusion-returns-in-Ok-clause-refused : goal.walk_inclusion-returns-in-Ok-clause-refused
walk_inclusion-returns-in-Ok-clause-refused g t c =
    if_err c.walk_file-in-Ok.result _ _
    (λ refusal r. refuses_within c.args.left (selections_of c.in-Ok.inner) (selections_of c.args.selected.now) c.args.only c.in-Some.names
    c.bytes-in-Ok.result.now c.args.name (g.F.Files.known c.args.files.now) (g.F.Files.known c.walk_file-in-Ok.new.files) c.args.walked.now c.in-Some.is
    c.bytes-in-Ok.ensures.value c.in-Ok.ensures refusal.file refusal.why r)
    c.walk_file-in-Ok.ensures.refused

pub walk_items-returns-in-Err-clause-refused : goal.walk_items-returns-in-Err-clause-refused
walk_items-returns-in-Err-clause-refused g t c =
    let at = c.loop-item in
    formula_ends (g.F.Files.known c.args.files.now) (g.F.Files.known at.files) c.args.left (selections_of c.args.selected.now) c.args.file c.args.items c.args.walked.now
    at.walked (into_iter_items at.item-iterator) (into_iter_items c.next.new.self) c.in-Some.item c.in-Some.ensures.steps.0 at.invariant.underway
    c.in-Fof.fof at.file c.of.result.file c.of.result.why c.in-Err.why c.in-Fof.is c.in-Err.ensures.refused at.invariant.file c.of.ensures.file
    c.of.ensures.why

pub walk_items-loop-item-preserved-in_default : goal.walk_items-loop-item-preserved-in_default
walk_items-loop-item-preserved-in_default g t c =
    let at = c.loop-item in
    let steps : into_iter_items at.item-iterator ≡ c.in-Some.item ∷ into_iter_items c.next.new.self = c.in-Some.ensures.steps.0 in
    record {
      underway = formula_on (g.F.Files.known c.args.files.now) (g.F.Files.known at.files) c.args.left (selections_of c.args.selected.now) c.args.file c.args.items
          c.args.walked.now at.walked (into_iter_items at.item-iterator) (into_iter_items c.next.new.self) c.in-Some.item steps at.invariant.underway
          c.in-Fof.fof c.keep_selected.new.walked c.in-Fof.is c.in_default.ensures.passes;
      allowed = (rw steps at at.invariant.allowed).1;
      len = let was = at.invariant.len in let gone = c.in-Some.ensures.steps.1 in let short = ap length steps in omega arith;
      file = at.invariant.file;
    }

pub walk_items-loop-item-preserved : goal.walk_items-loop-item-preserved
walk_items-loop-item-preserved g t c =
    let at = c.loop-item in
    let steps : into_iter_items at.item-iterator ≡ c.in-Some.item ∷ into_iter_items c.next.new.self = c.in-Some.ensures.steps.0 in
    record {
      underway = inclusion_on (g.F.Files.known c.args.files.now) (g.F.Files.known at.files) c.args.left (selections_of c.args.selected.now) c.args.file c.args.items
          c.args.walked.now at.walked (into_iter_items at.item-iterator) (into_iter_items c.next.new.self) c.in-Some.item steps at.invariant.underway
          c.in-Include.name c.in-Include.only (g.F.Files.known c.walk_inclusion.new.files) c.in-Include.is c.walk_inclusion.new.walked
          c.in_ok-walk_inclusion-in-Include.ensures.passes;
      allowed = (rw steps at at.invariant.allowed).1;
      len = let was = at.invariant.len in let gone = c.in-Some.ensures.steps.1 in let short = ap length steps in omega arith;
      file = at.invariant.file;
    }

pub walk_items-returns-in_err-walk_inclusion-in-Include-clause-refused :
    goal.walk_items-returns-in_err-walk_inclusion-in-Include-clause-refused
walk_items-returns-in_err-walk_inclusion-in-Include-clause-refused g t c =
    let at = c.loop-item in
    let refusal = c.in_err-walk_inclusion-in-Include in
    let ends = inclusion_ends (g.F.Files.known c.args.files.now) (g.F.Files.known at.files) c.args.left (selections_of c.args.selected.now) c.args.file c.args.items
    c.args.walked.now at.walked (into_iter_items at.item-iterator) (into_iter_items c.next.new.self) c.in-Some.item c.in-Some.ensures.steps.0
    at.invariant.underway c.in-Include.name c.in-Include.only (g.F.Files.known c.walk_inclusion.new.files) c.in-Include.is refusal.field-0.0.file
    refusal.field-0.0.why refusal.ensures.refused in
    search rules

pub walk_items-returns-clause-passes : goal.walk_items-returns-clause-passes
walk_items-returns-clause-passes g t c =
    let at = c.loop-item in
    underway_all (g.F.Files.known c.args.files.now) (g.F.Files.known at.files) c.args.left (selections_of c.args.selected.now) c.args.file c.args.items c.args.walked.now
    at.walked (into_iter_items at.item-iterator) (nothing_left (into_iter_items at.item-iterator) (sym at.invariant.len ∙ c.in-None.ensures.steps.0))
    at.invariant.underway
