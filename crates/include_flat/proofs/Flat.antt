-- What the walk from a first file on comes to.
use Rattle.std.proofs.Common.{◌≡◌, ◌⊎◌, List, [], ◌++◌, length, Option, Some, None, sym, ap, ◌∙◌}
use Rattle.std.specs.Prelude.{IfSome}
use Rattle.text_core.specs.declared.limits.TheConstants.{MOST_FILES}
use Rattle.text_core.specs.Names.{Text}
use Rattle.logic_core.specs.declared.problem.Fof.{Fof}
use Rattle.io_core.specs.Held.{Held}
use Rattle.include_flat.specs.declared.refusal.FlatWhy.{FlatWhy}
use Rattle.include_flat.specs.declared.refusal.FlatWhy.TheVariants.{Lex, Syntax, FileFault, FileTooLong, AllTooLong, IncludeDepth, TooManyFormulas, Memory}
use Rattle.include_flat.specs.declared.walked.Walked.{Walked}
use Rattle.include_flat.specs.Walks.{Entry}
use Rattle.include_flat.specs.Flattened.{decision, decision_after, is_refused, kept_of, IsFlat}
use Rattle.include_flat.specs.Refusals.{IsFlatRefused, IsFlatRefusal, IsOutside}
use Rattle.io_core.specs.Known.{Known}
use Rattle.include_flat.specs.Progress.{over_file, decided, PassesOver, RefusesOver, PassesPart, Refuses, selections_of}
use Rattle.include_flat.proofs.Told.{where_told}
use Rattle.include_flat.proofs.OneAnswer.{one_list, never_both, not_refused, refused_alike}

-- before anything is walked, what is decided is decided from the start
from_start : (before : Walked) (entries : List Entry) → before.bytes ≡ 0 → before.problem ≡ [] → decision entries ≡ decided before entries
from_start before entries bytes problem = λ i. decision_after (sym bytes i) (length (sym problem i)) entries

module _ (held : Held) (name : Text) (before : Walked) (bytes : before.bytes ≡ 0) (problem : before.problem ≡ []) where
  -- where a walk from the first file is passed, its formulas are the flat problem
  flat : (after : Walked) (read : List Fof) → read ≡ after.problem → PassesPart (over_file MOST_FILES [] name held) before after →
      IsFlat held name read
  flat after read is p = (
    p.entries,
    p.walk,
    from_start before p.entries bytes problem ∙ p.passed.undecided,
    is ∙ p.passed.problem ∙ ap (λ (fofs : List Fof). fofs ++ kept_of p.entries) problem,
  )

  -- what decides the walk from the first file decides the problem
  decided_here : (file : Text) (why : FlatWhy) → (entries : List Entry) × over_file MOST_FILES [] name held entries ×
      (decided before entries ≡ Some (is_refused file why)) → IsFlatRefused held name file why
  decided_here file why (entries, walk, e) = (entries, walk, from_start before entries bytes problem ∙ e)

  -- what refuses the walk from the first file refuses the problem
  flat_refusal : (file : Text) (why : FlatWhy) → Refuses (over_file MOST_FILES [] name held) before file why → IsFlatRefusal held name file why
  flat_refusal file Memory h = h
  flat_refusal file FileFault (front, entry, back, walk, asks, none) =
      (front, entry, back, walk, asks, from_start before front bytes problem ∙ none)
  flat_refusal file (Lex refusal) h = decided_here file (Lex refusal) h
  flat_refusal file (Syntax refusal) h = decided_here file (Syntax refusal) h
  flat_refusal file FileTooLong h = decided_here file FileTooLong h
  flat_refusal file AllTooLong h = decided_here file AllTooLong h
  flat_refusal file IncludeDepth h = decided_here file IncludeDepth h
  flat_refusal file TooManyFormulas h = decided_here file TooManyFormulas h

module _ (files later : Known) (name : Text) (selected : Option (List Text)) (before : Walked) (all : selected ≡ None)
    (bytes : before.bytes ≡ 0) (problem : before.problem ≡ []) where
  module _ (after : Walked) (read : List Fof) (is : read ≡ after.problem)
      (passes : PassesOver (over_file MOST_FILES (selections_of selected) name) files later before after) where
    -- what is answered is the flat problem
    pub passed_whole : IfSome files.held (λ held. IsFlat held name read)
    passed_whole = where_told files.held _ _ (λ held p. flat held name before bytes problem after read is p) (rw all at passes).part

    -- where there is a flat problem, the answer is that one
    pub found_list : IfSome files.held (λ held. (other : List Fof) → IsFlat held name other → read ≡ other)
    found_list = where_told files.held _ _ (λ held whole other flat. one_list held name other read flat whole) passed_whole

    -- where formulas are answered, nothing refuses the problem
    pub told_list : IfSome files.held (λ held. (file : Text) (why : FlatWhy) → IsFlatRefused held name file why → ⊥)
    told_list = where_told files.held _ _ (λ held whole file why refused. never_both held name read file why whole refused) passed_whole

  module _ (file : Text) (why : FlatWhy)
      (refuses : RefusesOver (over_file MOST_FILES (selections_of selected) name) files later before file why) where
    -- what is refused is refused for its reason
    pub refused_whole : IfSome files.held (λ held. IsFlatRefusal held name file why)
    refused_whole = where_told files.held _ _ (λ held r. flat_refusal held name before bytes problem file why r) (rw all at refuses).ends

    -- where there is a flat problem, a refusal comes from outside
    pub found_refusal : IfSome files.held (λ held. (other : List Fof) → IsFlat held name other → IsOutside why)
    found_refusal = where_told files.held _ _ (λ held refusal other flat. not_refused held name other file why flat refusal) refused_whole

    -- where there is a refusal, the answer is that one, or comes from outside
    pub told_refusal : IfSome files.held (λ held. (other : Text) (reason : FlatWhy) → IsFlatRefused held name other reason →
        IsOutside why ⊎ ((file ≡ other) × (why ≡ reason)))
    told_refusal = where_told files.held _ _ (λ held refusal other reason refused.
        refused_alike held name other file reason why refused refusal) refused_whole
