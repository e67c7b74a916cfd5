-- One more selection, name by name.
use Rattle.std.proofs.Common.{◌≡◌, Bool, true, false, ◌&&◌, ◌||◌, cond, List, [], ◌∷◌, ◌++◌, refl, sym, ap, subst, ◌∙◌}
use Rattle.std.specs.List.{list_any}
use Rattle.std.specs.Str.{bytes_eq}
use Rattle.std.specs.Cmp.Lexicographic.{bytes_decides}
use Rattle.std.proofs.lemmas.List.Folds.{list_any-append}
use Rattle.indexmap.specs.IndexSet.{insert_key}
use Rattle.text_core.specs.Names.{Text}

-- a test, or false, is the test
or_false : (b : Bool) → (b || false) ≡ b
or_false true = refl
or_false false = refl

-- a name at the end of a list
any_last : (name last : Text) (names : List Text) → list_any (bytes_eq name) (names ++ last ∷ []) ≡ (list_any (bytes_eq name) names || bytes_eq name last)
any_last name last names = list_any-append (bytes_eq name) names (last ∷ []) ∙ ap (λ b. list_any (bytes_eq name) names || b) (or_false (bytes_eq name last))

-- names that pass the test are the same
same_name : (a b : Text) → bytes_eq a b ≡ true → a ≡ b
same_name a b e = (bytes_decides a b).0 e

-- a name among those of a set after one was inserted
any_inserted : (name new : Text) (names : List Text) → list_any (bytes_eq name) (insert_key bytes_eq names new) ≡ (list_any (bytes_eq name) names || bytes_eq name new)
any_inserted name new names = by (list_any (bytes_eq new) names) (bytes_eq name new) refl refl
  where
    there : (b e : Bool) → list_any (bytes_eq new) names ≡ true → bytes_eq name new ≡ e → list_any (bytes_eq name) names ≡ b → b ≡ (b || e)
    there b false known apart is = sym (or_false b)
    there true true known same is = refl
    there false true known same is = sym is ∙ subst (λ x. list_any (bytes_eq x) names ≡ true) (sym (same_name name new same)) known

    by : (known e : Bool) → list_any (bytes_eq new) names ≡ known → bytes_eq name new ≡ e →
        list_any (bytes_eq name) (cond known names (names ++ new ∷ [])) ≡ (list_any (bytes_eq name) names || bytes_eq name new)
    by true e known is = subst (λ x. list_any (bytes_eq name) names ≡ (list_any (bytes_eq name) names || x)) (sym is) (there _ e known is refl)
    by false e known is = any_last name new names

-- whether a name is among those that are kept, as whether it is among those so far and selected
abbrev pub AreKept : (Text → Bool) → List Text → List Text → Type 0
AreKept selected kept names = (name : Text) → list_any (bytes_eq name) kept ≡ (list_any (bytes_eq name) names && selected name)

-- one more name that is selected is kept too
pub one_kept : (selected : Text → Bool) (kept names : List Text) (new : Text) → AreKept selected kept names → selected new ≡ true →
    AreKept selected (insert_key bytes_eq kept new) (names ++ new ∷ [])
one_kept selected kept names new so_far is = λ name. any_inserted name new kept ∙
    by name (bytes_eq name new) refl ∙ ap (λ b. b && selected name) (sym (any_last name new names))
  where
    absorbed : (b s : Bool) → s ≡ true → ((b && s) || true) ≡ ((b || true) && s)
    absorbed true true e = refl
    absorbed true false e = sym e
    absorbed false s e = sym e

    apart : (b s : Bool) → ((b && s) || false) ≡ ((b || false) && s)
    apart true s = or_false s
    apart false s = refl

    by : (name : Text) (e : Bool) → bytes_eq name new ≡ e →
        (list_any (bytes_eq name) kept || bytes_eq name new) ≡ ((list_any (bytes_eq name) names || bytes_eq name new) && selected name)
    by name true same = rw (same, so_far name) (absorbed (list_any (bytes_eq name) names) (selected name) (ap selected (same_name name new same) ∙ is))
    by name false same = rw (same, so_far name) (apart (list_any (bytes_eq name) names) (selected name))

-- one more name that is not selected is left out
pub one_left : (selected : Text → Bool) (kept names : List Text) (new : Text) → AreKept selected kept names → selected new ≡ false →
    AreKept selected kept (names ++ new ∷ [])
one_left selected kept names new so_far not = λ name. so_far name ∙ by name (bytes_eq name new) refl ∙
    ap (λ b. b && selected name) (sym (any_last name new names))
  where
    none : (b c s : Bool) → s ≡ false → (b && s) ≡ (c && s)
    none b c s e = rw e (both b c)
      where
        both : (b c : Bool) → (b && false) ≡ (c && false)
        both true true = refl
        both true false = refl
        both false true = refl
        both false false = refl

    by : (name : Text) (e : Bool) → bytes_eq name new ≡ e →
        (list_any (bytes_eq name) names && selected name) ≡ ((list_any (bytes_eq name) names || bytes_eq name new) && selected name)
    by name true same = none (list_any (bytes_eq name) names) _ (selected name) (ap selected (same_name name new same) ∙ not)
    by name false same = rw (same, or_false (list_any (bytes_eq name) names)) refl
