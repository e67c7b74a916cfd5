-- Room for a search.
use Rattle.std.proofs.Common.{◌≡◌, ℕ, ◌^◌, ◌<◌, ◌≤◌, List, map, length, ap, ◌∙◌, arith, length-append}
use Rattle.std.proofs.lemmas.List.{length-map}
use Rattle.logic_core.specs.declared.form.Form.{Form}
use Rattle.vernacular_tree.specs.declared.context.Context.{Context}
use Rattle.coherent_form.specs.Kept.{IsRight}
use Rattle.coherent_form.specs.Tasks.{CitedTask}
use Rattle.kept_context.specs.Kept.{Kept, Represents, HasRoom, HasSpare, without_facts, line_seen}
use Rattle.kept_context.specs.Lent.{IsContextOf}
use Rattle.trail_search.specs.Answers.{AreAnswers}
use Rattle.trail_search.specs.Searches.{IsReady}

-- room for fewer lines
pub room_less : (task : CitedTask) (kept : Kept) (more fewer : ℕ) → fewer ≤ more → HasRoom task more kept → HasRoom task fewer kept
room_less task kept more fewer less room =
    let facts = room.facts in
    let args = room.args in
    let lines = room.lines in
    let values = room.values in
    let elements = room.elements in record {
      facts = omega arith;
      args = omega arith;
      lines = omega arith;
      values = omega arith;
      elements = omega arith;
      signed = room.signed;
    }

-- and for fewer facts besides
pub spare_less : (kept : Kept) (more facts args fewer few_facts few_args : ℕ) → fewer ≤ more → few_facts ≤ facts → few_args ≤ args
    → HasSpare more facts args kept → HasSpare fewer few_facts few_args kept
spare_less kept more facts args fewer few_facts few_args less less_facts less_args spare =
    let one = spare.facts_fit in
    let two = spare.args_fit in record { facts_fit = omega arith; args_fit = omega arith }

-- no line is behind those of the context that was lent
none_behind : (task : CitedTask) (lent : Context) (kept : Kept) → Represents task lent kept lent → length kept.lines ≡ 0
none_behind task lent kept is =
    let behind = map (line_seen task kept.values) kept.lines in
    let lent_lines = map without_facts lent.lines in
    let both = ap length is.lines_are ∙ length-append lent_lines behind in
    let long = length-map kept.lines (line_seen task kept.values) in omega arith

-- a context that was lent is ready to be searched
pub lent_ready : (task : CitedTask) (answers : List Form) (lent : Context) (within : ℕ) (kept : Kept) → within ≤ 200 → IsRight task → AreAnswers task answers → length answers < 2 ^ 32
    → IsContextOf task lent → Represents task lent kept lent → HasRoom task within kept → IsReady task answers lent within kept
lent_ready task answers lent within kept small right are few_answers lends is room =
    let none = none_behind task lent kept is in
    let few = lends.few_lines in
    let elements = is.elements_are in
    let start = lends.start in record {
      task_is = right;
      answers_are = are;
      lent_is = lends;
      context = lent;
      represents = is;
      start = omega arith;
      room = room;
      few_lines = omega arith;
      few_answers = few_answers;
    }
