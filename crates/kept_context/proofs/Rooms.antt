-- What has grown, how much room is left, and how it goes back.
use Rattle.std.proofs.Common.{◌≡◌, ℕ, ◌+◌, ◌*◌, ◌-◌, ◌≤◌, List, [], ◌∷◌, ◌++◌, length, take, drop, sum_by, refl, ap, sym, ◌∙◌, subst, arith, append_assoc, append-nil, length-append}
use Rattle.std.proofs.lemmas.List.Sums.{sum_by-append}
use Rattle.std.proofs.Math.Seq.{drop-append_seam, take-append_seam}
use Rattle.text_core.specs.declared.limits.TheConstants.{MOST_FORM_ATOMS, MOST_ARGUMENTS, MOST_FORM_VARIABLES}
use Rattle.fact_store.specs.Facts as store
use Rattle.logic_core.specs.declared.form.Form.{Form}
use Rattle.vernacular_tree.specs.Contexts.{counted}
use Rattle.vernacular_tree.proofs.Laws.{counted_length}
use Rattle.coherent_form.specs.Tasks.{CitedTask}
use Rattle.coherent_form.specs.Wide.{FormIsNarrow}
use Rattle.kept_context.specs.Kept.{Kept, HasRoom, HasSpare, Grows, point_of}
use Rattle.kept_context.specs.Noted.{Adds}
use Rattle.kept_context.specs.declared.kept.OwnLine.{OwnLine}
use Rattle.kept_context.specs.declared.kept.Point.{Point}

-- ---- growth

-- it grows into itself
pub grows_same : (kept : Kept) → Grows kept kept
grows_same kept = record {
  facts = [];
  lines = [];
  values = [];
  facts_are = sym (append-nil kept.store.facts);
  spare_facts = omega arith;
  spare_args = omega arith;
  signed_is = refl;
  lines_are = sym (append-nil kept.lines);
  values_are = sym (append-nil kept.values);
  line_room_is = refl;
  value_room_is = refl;
}

-- what has grown into something that has grown
pub grows_on : (a b c : Kept) → Grows a b → Grows b c → Grows a c
grows_on a b c x y =
    let args : List store.Fact → ℕ = λ facts. sum_by (λ (fact : store.Fact). length fact.args) facts in
    let long : length (x.facts ++ y.facts) ≡ length x.facts + length y.facts = length-append x.facts y.facts in
    let wide : sum_by (λ (fact : store.Fact). length fact.args) (x.facts ++ y.facts)
    ≡ sum_by (λ (fact : store.Fact). length fact.args) x.facts + sum_by (λ (fact : store.Fact). length fact.args) y.facts
    = sum_by-append (λ (fact : store.Fact). length fact.args) x.facts y.facts in
    record {
      facts = x.facts ++ y.facts;
      lines = x.lines ++ y.lines;
      values = x.values ++ y.values;
      facts_are = y.facts_are ∙ ap (λ (fs : List store.Fact). fs ++ y.facts) x.facts_are ∙ append_assoc a.store.facts x.facts y.facts;
      spare_facts = omega arith;
      spare_args = omega arith;
      signed_is = y.signed_is ∙ x.signed_is;
      lines_are = y.lines_are ∙ ap (λ (ls : List OwnLine). ls ++ y.lines) x.lines_are ∙ append_assoc a.lines x.lines y.lines;
      values_are = y.values_are ∙ ap (λ (vs : List ℕ). vs ++ y.values) x.values_are ∙ append_assoc a.values x.values y.values;
      line_room_is = y.line_room_is ∙ x.line_room_is;
      value_room_is = y.value_room_is ∙ x.value_room_is;
    }

-- it grows by what is added
pub adds_grows : (m n : ℕ) (old new : Kept) (lines : List OwnLine) (values : List ℕ) → Adds m n old.store new.store
    → new.lines ≡ old.lines ++ lines → new.values ≡ old.values ++ values → new.line_room ≡ old.line_room → new.value_room ≡ old.value_room
    → Grows old new
adds_grows m n old new lines values adds lines_are values_are line_room value_room = record {
  facts = adds.added;
  lines = lines;
  values = values;
  facts_are = adds.facts_are;
  spare_facts = adds.spare_facts;
  spare_args = adds.spare_args;
  signed_is = adds.signed_is;
  lines_are = lines_are;
  values_are = values_are;
  line_room_is = line_room;
  value_room_is = value_room;
}

-- ---- room

-- room for one line less, after a line
pub room_left : (task : CitedTask) (old new : Kept) (own : OwnLine) (values : List ℕ) (added : ℕ) → Adds MOST_FORM_ATOMS (MOST_FORM_ATOMS * MOST_ARGUMENTS) old.store new.store
    → new.lines ≡ old.lines ++ own ∷ [] → new.values ≡ old.values ++ values → new.line_room ≡ old.line_room → new.value_room ≡ old.value_room
    → length values ≤ MOST_FORM_VARIABLES → new.elements ≡ old.elements + added → added ≤ MOST_FORM_VARIABLES
    → (more : ℕ) → HasRoom task (more + 1) old → HasRoom task more new
room_left task old new own values added adds lines_are values_are line_room value_room few elements few_added more room =
    let lines : length new.lines ≡ length old.lines + 1 = ap length lines_are ∙ length-append old.lines (own ∷ []) in
    let longer : length new.values ≡ length old.values + length values = ap length values_are ∙ length-append old.values values in
    record {
      facts = omega arith;
      args = omega arith;
      lines = omega arith;
      values = omega arith;
      elements = omega arith;
      signed = adds.signed_is ∙ room.signed;
    }

-- room for one line less, after a form was applied
pub room_applied : (task : CitedTask) (old new : Kept) (own : OwnLine) (f : Form) (args : List ℕ) → Adds MOST_FORM_ATOMS (MOST_FORM_ATOMS * MOST_ARGUMENTS) old.store new.store
    → new.lines ≡ old.lines ++ own ∷ [] → new.values ≡ old.values ++ (args ++ counted old.elements f.existentials) → new.line_room ≡ old.line_room → new.value_room ≡ old.value_room
    → length args ≡ f.universals → FormIsNarrow f → new.elements ≡ old.elements + f.existentials
    → (more : ℕ) → HasRoom task (more + 1) old → HasRoom task more new
room_applied task old new own f args adds lines_are values_are line_room value_room as_many narrow elements more room =
    let long : length (args ++ counted old.elements f.existentials) ≡ length args + f.existentials
    = length-append args (counted old.elements f.existentials) ∙ ap (λ n. length args + n) (counted_length old.elements f.existentials) in
    let few = narrow.variables in
    room_left task old new own (args ++ counted old.elements f.existentials) f.existentials adds lines_are values_are line_room value_room
    (omega arith) elements (omega arith) more room

-- room for as many lines, after a context was lent
pub room_lent : (task : CitedTask) (old new : Kept) (facts args elements : ℕ) → Adds facts args old.store new.store
    → new.lines ≡ old.lines → new.values ≡ old.values → new.line_room ≡ old.line_room → new.value_room ≡ old.value_room
    → new.elements ≡ elements → elements ≤ 4000000000
    → (more : ℕ) → more ≤ 200 → HasRoom task more old → HasSpare more facts args old → HasRoom task more new
room_lent task old new facts args elements adds lines_are values_are line_room value_room elements_are few more small room spare =
    let lines : length new.lines ≡ length old.lines = ap length lines_are in
    let values : length new.values ≡ length old.values = ap length values_are in
    record {
      facts = omega arith;
      args = omega arith;
      lines = omega arith;
      values = omega arith;
      elements = omega arith;
      signed = adds.signed_is ∙ room.signed;
    }

-- ---- back

-- what is left of it at a point
abbrev pub cut : Point → Kept → Kept
cut point kept = record {
  store = record kept.store {
    facts = take point.facts kept.store.facts;
    spare_facts = kept.store.spare_facts + (length kept.store.facts - point.facts);
    spare_args = kept.store.spare_args + sum_by (λ (fact : store.Fact). length fact.args) (drop point.facts kept.store.facts);
  };
  lines = take point.lines kept.lines;
  values = take point.values kept.values;
  elements = point.elements;
  falsum = point.falsum;
  line_room = kept.line_room;
  value_room = kept.value_room;
}

-- at a point out of which it grew it is as it was there
pub cut_back : (before kept : Kept) (point : Point) → point_of before ≡ point → Grows before kept → cut point kept ≡ before
cut_back before kept point at grows = subst (λ p. cut p kept ≡ before) at (λ i. record {
  store = record {
    facts = facts i;
    spare_facts = spare_facts i;
    spare_args = spare_args i;
    signed = grows.signed_is i;
  };
  lines = (ap (take (length before.lines)) grows.lines_are ∙ take-append_seam before.lines grows.lines) i;
  values = (ap (take (length before.values)) grows.values_are ∙ take-append_seam before.values grows.values) i;
  elements = before.elements;
  falsum = before.falsum;
  line_room = grows.line_room_is i;
  value_room = grows.value_room_is i;
})
  where
    facts : take (length before.store.facts) kept.store.facts ≡ before.store.facts
    facts = ap (take (length before.store.facts)) grows.facts_are ∙ take-append_seam before.store.facts grows.facts

    rest : drop (length before.store.facts) kept.store.facts ≡ grows.facts
    rest = ap (drop (length before.store.facts)) grows.facts_are ∙ drop-append_seam before.store.facts grows.facts

    spare_facts : kept.store.spare_facts + (length kept.store.facts - length before.store.facts) ≡ before.store.spare_facts
    spare_facts = let long : length kept.store.facts ≡ length before.store.facts + length grows.facts = ap length grows.facts_are ∙ length-append before.store.facts grows.facts in omega arith

    spare_args : kept.store.spare_args + sum_by (λ (fact : store.Fact). length fact.args) (drop (length before.store.facts) kept.store.facts) ≡ before.store.spare_args
    spare_args = ap (λ (fs : List store.Fact). kept.store.spare_args + sum_by (λ (fact : store.Fact). length fact.args) fs) rest ∙ sym grows.spare_args
