-- A problem's file has one answer: a list of formulas, or a refusal of one file for one reason.
use Rattle.std.proofs.Common.{◌≡◌, ◌⊎◌, inl, inr, refl, List, [], Option, Some, None, sym, ap, ◌∙◌}
use Rattle.text_core.specs.declared.limits.TheConstants.{MOST_FILES}
use Rattle.text_core.specs.Names.{Text}
use Rattle.logic_core.specs.declared.problem.Fof.{Fof}
use Rattle.io_core.specs.Held.{Held}
use Rattle.include_flat.specs.declared.refusal.FlatWhy.{FlatWhy}
use Rattle.include_flat.specs.declared.refusal.FlatWhy.TheVariants.{Lex, Syntax, FileFault, FileTooLong, AllTooLong, IncludeDepth, TooManyFormulas, Memory}
use Rattle.include_flat.specs.Walks.{Entry}
use Rattle.include_flat.specs.Flattened.{Decision, Walks, decision, is_refused, kept_of, IsFlat}
use Rattle.include_flat.specs.Refusals.{IsDecided, IsFlatRefused, IsFlatRefusal, IsOutside}
use Rattle.include_flat.proofs.OneWalk.{one_walk}
use Rattle.include_flat.proofs.SomeWalk.{some_walk}

module _ (held : Held) (name : Text) where
  -- two walks from a first file are the same
  one_of_both : (a b : List Entry) → Walks held name a → Walks held name b → a ≡ b
  one_of_both a b first second = one_walk held MOST_FILES [] name a b first second

  -- there is one flat problem
  pub one_list : (problem read : List Fof) → IsFlat held name problem → IsFlat held name read → read ≡ problem
  one_list problem read (a, first, _, is) (b, second, _, reads) = reads ∙ ap kept_of (one_of_both b a second first) ∙ sym is

  -- one decision is the first
  pub one_decision : (d c : Decision) → IsDecided held name d → IsDecided held name c → d ≡ c
  one_decision d c (a, first, some) (b, second, also) = let same = ap decision (one_of_both a b first second) in cc

  -- nothing decides where there is a flat problem
  pub none_decided : (problem : List Fof) (d : Decision) → IsFlat held name problem → IsDecided held name d → ⊥
  none_decided problem d (a, first, none, _) (b, second, some) = let same = ap decision (one_of_both a b first second) in cc

  -- no refusal decides where there is a flat problem
  pub never_both : (problem : List Fof) (file : Text) (why : FlatWhy) → IsFlat held name problem → IsFlatRefused held name file why → ⊥
  never_both problem file why flat refused = none_decided problem (is_refused file why) flat refused

  -- one refusal decides
  pub one_refusal : (file other : Text) (why reason : FlatWhy) → IsFlatRefused held name file why → IsFlatRefused held name other reason →
      (file ≡ other) × (why ≡ reason)
  one_refusal file other why reason first second =
      let same = one_decision (is_refused file why) (is_refused other reason) first second in
      (cc, cc)

  -- there is a flat problem, or something decides
  pub flat_or_decided : ((problem : List Fof) × IsFlat held name problem) ⊎ ((d : Decision) × IsDecided held name d)
  flat_or_decided = let some = some_walk held MOST_FILES [] name in by some.entries some.walk (decision some.entries) refl
    where
      by : (entries : List Entry) → Walks held name entries → (found : Option Decision) → decision entries ≡ found →
          ((problem : List Fof) × IsFlat held name problem) ⊎ ((d : Decision) × IsDecided held name d)
      by entries walk None e = inl (kept_of entries, (entries, walk, e, refl))
      by entries walk (Some d) e = inr (d, (entries, walk, e))

  -- a refusal comes from outside, or decides
  refused_for : (file : Text) (why : FlatWhy) → IsFlatRefusal held name file why → IsOutside why ⊎ IsFlatRefused held name file why
  refused_for file (Lex refusal) h = inr h
  refused_for file (Syntax refusal) h = inr h
  refused_for file FileFault h = inl (inl refl)
  refused_for file FileTooLong h = inr h
  refused_for file AllTooLong h = inr h
  refused_for file IncludeDepth h = inr h
  refused_for file TooManyFormulas h = inr h
  refused_for file Memory h = inl (inr refl)

  -- where the formulas are told, a refusal comes from outside
  pub not_refused : (problem : List Fof) (file : Text) (why : FlatWhy) → IsFlat held name problem → IsFlatRefusal held name file why →
      IsOutside why
  not_refused problem file why flat h = by (refused_for file why h)
    where
      by : IsOutside why ⊎ IsFlatRefused held name file why → IsOutside why
      by (inl outside) = outside
      by (inr refused) = absurd (never_both problem file why flat refused)

  -- where a refusal is told, each other comes from outside
  pub refused_alike : (file other : Text) (why reason : FlatWhy) → IsFlatRefused held name file why → IsFlatRefusal held name other reason →
      IsOutside reason ⊎ ((other ≡ file) × (reason ≡ why))
  refused_alike file other why reason refused h = by (refused_for other reason h)
    where
      by : IsOutside reason ⊎ IsFlatRefused held name other reason → IsOutside reason ⊎ ((other ≡ file) × (reason ≡ why))
      by (inl outside) = inl outside
      by (inr also) = inr (one_refusal other file reason why also refused)
