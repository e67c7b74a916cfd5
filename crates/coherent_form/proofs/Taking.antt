-- What a formula behind those that were read gives, step by step.
use Rattle.std.proofs.Common.{◌≡◌, ℕ, ◌+◌, ◌-◌, ◌<◌, ◌≤◌, min, List, [], ◌++◌, map, take, length, slice_get, Option, Some, None, Result, Ok, Err, OnOk, IfErr, ◌⊎◌, inl, inr, true, false, if◌then◌else◌, unwrap_or, refl, ap, sym, ◌∙◌, subst, arith}
use Rattle.std.proofs.lemmas.List.Sums.{sum_by_push}
use Rattle.std.proofs.lemmas.List.{length-map, length-append}
use Rattle.std.specs.List.{sum_by}
use Rattle.std.specs.Option.{option_map}
use Rattle.text_core.specs.Numbered.{Symbol, Tables}
use Rattle.text_core.specs.declared.limits.TheConstants.{MOST_PLACES}
use Rattle.text_core.proofs.Laws.{take_next}
use Rattle.logic_core.specs.Allowed.{FofIsAllowed, IsAllowed}
use Rattle.logic_core.specs.declared.form.Form.{Form}
use Rattle.logic_core.specs.declared.formula.Formula as formula
use Rattle.vernacular_tree.specs.Contexts.{counted}
use Rattle.coherent_form.specs.Gathered.{given, progress_of, IsReading, IsUnread}
use Rattle.coherent_form.specs.Kept.{name_at}
use Rattle.coherent_form.specs.Reading.{forms_of}
use Rattle.coherent_form.specs.Tasks.{Progress, AreFew, HasPlaces, IsRefusedBehind, IsSingle, IsTaken, after_formula, forms_behind, is_conjecture, is_second, no_goal, places, tables_after}
use Rattle.coherent_form.specs.Wide.{AreNarrow, IsReadable, Reads}
use Rattle.logic_core.specs.declared.problem.Fof.{Fof}
use Rattle.coherent_form.specs.declared.problem_reading.Reading.{Reading}
use Rattle.coherent_form.specs.declared.source.Source.{Source}
use Rattle.coherent_form.specs.declared.source.Source.TheVariants.{Formula}
use Rattle.coherent_form.specs.declared.task_refusal.TaskWhy.{TaskWhy}
use Rattle.coherent_form.specs.declared.task_refusal.TaskWhy.TheVariants.{NotCoherent, TooWide, TooManyConjectures, TooManyForms, ManyGoals, Memory}
use Rattle.coherent_form.proofs.Counting.{small_narrow, narrow_small}
use Rattle.coherent_form.proofs.NamesKept.{citations_given, named_given}
use Rattle.coherent_form.proofs.Ranks.{length_counted}

-- the places of symbols that are one more
places_more : (symbols : List Symbol) (i a : ℕ) → option_map (λ (s : Symbol). s.arity) (slice_get symbols i) ≡ Some a
    → sum_by (λ (s : Symbol). s.arity) (take (i + 1) symbols) ≡ sum_by (λ (s : Symbol). s.arity) (take i symbols) + a
places_more symbols i a is = go (slice_get symbols i) refl is
  where
    go : (o : Option Symbol) → slice_get symbols i ≡ o → option_map (λ (s : Symbol). s.arity) o ≡ Some a
        → sum_by (λ (s : Symbol). s.arity) (take (i + 1) symbols) ≡ sum_by (λ (s : Symbol). s.arity) (take i symbols) + a
    go (Some s) e told =
        let arity : s.arity ≡ a = cc in
        ap (sum_by (λ (s : Symbol). s.arity)) (take_next symbols i s e) ∙ sum_by_push (λ (s : Symbol). s.arity) (take i symbols) s ∙ ap (λ (n : ℕ). sum_by (λ (s : Symbol). s.arity) (take i symbols) + n) arity
    go None e told = absurd (cc)

-- and as they are told
pub places_step : (symbols : List Symbol) (number a before after : ℕ) → 0 < number → option_map (λ (s : Symbol). s.arity) (slice_get symbols (number - 1)) ≡ Some a
    → before ≡ min (sum_by (λ (s : Symbol). s.arity) (take (number - 1) symbols)) 4294967295 → after ≡ min (before + a) 4294967295
    → after ≡ min (sum_by (λ (s : Symbol). s.arity) (take (number + 1 - 1) symbols)) 4294967295
places_step symbols number a before after some is so_far next =
    let more = places_more symbols (number - 1) a is in
    let at : number - 1 + 1 ≡ number + 1 - 1 = omega arith in
    let moved : sum_by (λ (s : Symbol). s.arity) (take (number - 1 + 1) symbols) ≡ sum_by (λ (s : Symbol). s.arity) (take (number + 1 - 1) symbols) = ap (λ n. sum_by (λ (s : Symbol). s.arity) (take n symbols)) at in
    omega arith

-- there are as many sources as forms
pub same_count : (old new : List Source) (forms more all : List Form) (name first : ℕ) → length old ≡ length forms
    → new ≡ old ++ map (Formula name) (counted first (length more)) → all ≡ forms ++ more → length new ≡ length all
same_count old new forms more all name first were is all_is =
    let sources = length-append old (map (Formula name) (counted first (length more))) in
    let count = length-map (counted first (length more)) (Formula name) ∙ length_counted first (length more) in
    let both = length-append forms more in
    ap length is ∙ sources ∙ (λ i. were i + count i) ∙ sym both ∙ ap length (sym all_is)

-- a formula that was read is readable, whatever the tables are
pub reads_readable : (tables after : Tables) (f : formula.Formula) (forms : List Form) → IsAllowed f → Reads tables f forms after → IsReadable f
reads_readable tables after f forms allowed reads = record {
  coherent = reads.coherent;
  narrow = λ others. small_narrow others f allowed.closed (narrow_small after f allowed.closed (subst AreNarrow reads.forms_are reads.narrow));
}

-- a formula that is read, and has too many argument places
pub unread_places : (tables after : Tables) (f : formula.Formula) (forms : List Form) (result : Result (List Form) TaskWhy) (w : TaskWhy) → result ≡ Err w → w ≡ TooWide
    → IsAllowed f → Reads tables f forms after → (places after ≤ MOST_PLACES → ⊥) → IfErr result (λ why. (why ≡ Memory) ⊎ IsUnread tables f why)
unread_places tables after f forms result w is wide allowed reads many =
    let why : IsUnread tables f TooWide = inr (reads_readable tables after f forms allowed reads, λ le. many (subst (λ t. places t ≤ MOST_PLACES) (sym reads.after_is) le)) in
    subst (λ r. IfErr r (λ v. (v ≡ Memory) ⊎ IsUnread tables f v)) (sym (is ∙ ap Err wide)) (inr why)

-- what is given after a formula, by its role

-- after a premise
after_premise : (p : Progress) (fof : Fof) → is_conjecture fof.role ≡ false
    → after_formula p fof ≡ given (record p { tables = tables_after p fof }) fof (forms_behind p fof)
after_premise p fof role = ap (λ b. if b then record {
  tables = tables_after p fof;
  forms = p.forms;
  citations = p.citations;
  variables = p.variables;
  goal = Some (unwrap_or (slice_get (forms_behind p fof) 0) no_goal);
} else given (record p { tables = tables_after p fof }) fof (forms_behind p fof)) role

-- after a conjecture
after_conjecture : (p : Progress) (fof : Fof) → is_conjecture fof.role ≡ true
    → after_formula p fof ≡ record p { tables = tables_after p fof; goal = Some (unwrap_or (slice_get (forms_behind p fof) 0) no_goal) }
after_conjecture p fof role = ap (λ b. if b then record {
  tables = tables_after p fof;
  forms = p.forms;
  citations = p.citations;
  variables = p.variables;
  goal = Some (unwrap_or (slice_get (forms_behind p fof) 0) no_goal);
} else given (record p { tables = tables_after p fof }) fof (forms_behind p fof)) role

-- what is unread is refused

-- where it is no second conjecture
pub unread_refused : (p : Progress) (fof : Fof) (w : TaskWhy) → is_second p fof ≡ false → IsUnread p.tables fof.formula w → IsRefusedBehind p fof w
unread_refused p fof (NotCoherent node) first h = (first, h)
unread_refused p fof TooWide first (inl h) = inl (first, h)
unread_refused p fof TooWide first (inr h) = inr (record { first = first; readable = h.0 }, h.1)
unread_refused p fof TooManyConjectures first h = absurd h
unread_refused p fof TooManyForms first h = absurd h
unread_refused p fof ManyGoals first h = absurd h
unread_refused p fof Memory first h = absurd h

-- a formula that is read behind others
module _ (old middle : Reading) (fof : Fof) (forms : List Form) (reading : IsReading old) (allowed : FofIsAllowed fof) (first : is_second (progress_of old) fof ≡ false)
    (kept : middle ≡ record old { tables = middle.tables; places = middle.places }) (reads : Reads old.tables fof.formula forms middle.tables)
    (places_are : middle.places ≡ places middle.tables) (places_few : middle.places ≤ MOST_PLACES) where
  -- its forms
  forms_are : forms ≡ forms_behind (progress_of old) fof
  forms_are = reads.forms_are ∙ ap (λ tables. forms_of tables [] fof.formula) reads.after_is

  -- it has places
  has_places : HasPlaces (progress_of old) fof
  has_places = record {
    read = record { first = first; readable = reads_readable old.tables middle.tables fof.formula forms allowed reads };
    places = subst (λ tables. places tables ≤ MOST_PLACES) reads.after_is (subst (λ n. n ≤ MOST_PLACES) places_are places_few);
  }

  -- what was read, with its tables
  progress_between : progress_of middle ≡ record (progress_of old) { tables = tables_after (progress_of old) fof }
  progress_between = ap progress_of kept ∙ (λ i. record {
    tables = reads.after_is i;
    forms = old.forms;
    citations = citations_given old.names.keys middle.tables old.tables old.sources.keys (named_given (length old.names.keys) old.sources.keys reading.named.of_forms) i;
    variables = map (map (name_at old.names.keys)) old.variables;
    goal = old.goal;
  })

  -- the forms that were there
  forms_between : middle.forms ≡ old.forms
  forms_between = ap (λ r. r.forms) kept

  -- with a goal it is a reading
  pub reading_with : (goal : Option Form) → IsReading (record middle { goal = goal })
  reading_with goal = subst (λ r. IsReading (record r { goal = goal })) (sym kept) (record {
    named = reading.named;
    ranked = reading.ranked;
    sources = reading.sources;
    few = reading.few;
    atoms = reading.atoms;
    places = places_are;
  })

  module _ (premise : is_conjecture fof.role ≡ false) where
    -- the forms after a premise
    forms_after_premise : middle.forms ++ forms ≡ (after_formula (progress_of old) fof).forms
    forms_after_premise = (λ i. forms_between i ++ forms_are i) ∙ ap (λ p. p.forms) (sym (after_premise (progress_of old) fof premise))

    -- a premise is single
    premise_single : IsSingle (progress_of old) fof
    premise_single is = absurd (let wrong : true ≡ false = sym is ∙ premise in cc)

    -- a premise is taken
    pub premise_taken : AreFew (middle.forms ++ forms) → IsTaken (progress_of old) fof
    premise_taken few = record { fits = has_places; single = premise_single; few = subst AreFew forms_after_premise few }

    -- with what it gives
    pub premise_progress : (new : Reading) → progress_of new ≡ given (progress_of middle) fof forms → progress_of new ≡ after_formula (progress_of old) fof
    premise_progress new is =
        is ∙ (λ i. given (progress_between i) fof (forms_are i)) ∙ sym (after_premise (progress_of old) fof premise)

    -- or refused
    pub premise_refused : (w : TaskWhy) → (w ≡ Memory) ⊎ ((w ≡ TooManyForms) × (AreFew (middle.forms ++ forms) → ⊥)) → (w ≡ Memory) ⊎ IsRefusedBehind (progress_of old) fof w
    premise_refused w (inl memory) = inl memory
    premise_refused w (inr many) = inr (subst (IsRefusedBehind (progress_of old) fof) (sym many.0)
        (has_places, premise_single, λ few. many.1 (subst AreFew (sym forms_after_premise) few)))

  module _ (conjecture : is_conjecture fof.role ≡ true) where
    -- a conjecture is taken
    pub conjecture_taken : length forms ≤ 1 → IsTaken (progress_of old) fof
    conjecture_taken one = record {
      fits = has_places;
      single = λ is. subst (λ fs. length fs ≤ 1) forms_are one;
      few = subst AreFew (ap (λ p. p.forms) (sym (after_conjecture (progress_of old) fof conjecture))) reading.few;
    }

    -- with what it gives
    pub conjecture_progress : (goal : Form) → goal ≡ unwrap_or (slice_get forms 0) no_goal → progress_of (record middle { goal = Some goal }) ≡ after_formula (progress_of old) fof
    conjecture_progress goal is =
        (λ i. record (progress_between i) { goal = Some ((is ∙ ap (λ fs. unwrap_or (slice_get fs 0) no_goal) forms_are) i) })
        ∙ sym (after_conjecture (progress_of old) fof conjecture)

    -- or refused
    pub conjecture_refused : (w : TaskWhy) → w ≡ ManyGoals → (length forms ≤ 1 → ⊥) → IsRefusedBehind (progress_of old) fof w
    conjecture_refused w is many = subst (IsRefusedBehind (progress_of old) fof) (sym is)
        (has_places, λ single. many (subst (λ fs. length fs ≤ 1) (sym forms_are) (single conjecture)))

-- answers

-- what holds where it is Ok
pub on_ok_from : {X E P Q : Type 0} (r : Result X E) → (P → Q) → OnOk r P → OnOk r Q
on_ok_from (Ok x) f h = f h
on_ok_from (Err why) f h = h

-- what holds of its refusal
pub if_err_from : {X E : Type 0} {P Q : E → Type 0} (r : Result X E) → ((why : E) → P why → Q why) → IfErr r P → IfErr r Q
if_err_from (Ok x) f h = h
if_err_from (Err why) f h = f why h

-- a known refusal
pub err_as : {X E : Type 0} (P : E → Type 0) (r : Result X E) (why : E) → r ≡ Err why → P why → IfErr r P
err_as P r why is h = subst (λ x. IfErr x P) (sym is) h
