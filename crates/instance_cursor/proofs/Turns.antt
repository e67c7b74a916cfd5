-- What a cursor gives in a turn, and what it leaves.
use Rattle.std.proofs.Common.{◌≡◌, ℕ, ◌+◌, ◌<◌, List, [], ◌∷◌, ◌++◌, map, length, take, get_or, set, sym, ap, subst, ◌∙◌, add-one, take-suc, take-suc-set, arith}
use Rattle.std.proofs.lemmas.List.{length-map, get_or-map}
use Rattle.logic_core.specs.declared.form.Form.{Form}
use Rattle.fact_store.specs.Facts.{Fact}
use Rattle.instance_cursor.specs.declared.origin.Origin.{Origin}
use Rattle.instance_cursor.specs.declared.stage.Stage.TheVariants.{Given}
use Rattle.instance_cursor.specs.Fitting.{Searched, read, instance_at}
use Rattle.instance_cursor.specs.Picking.{left_after}
use Rattle.instance_cursor.specs.Cursors.{Place, searched, picks_left, rest_of}

-- one element more of the instance is written
pub written_more : (s : Searched) (picks args : List ℕ) (origins : List Origin) (variable x : ℕ) (d : Origin) → origins ≡ s.origins → variable < length origins
    → length args ≡ length s.origins → take variable args ≡ take variable (instance_at s picks) → x ≡ read s picks (get_or origins variable d)
    → take (variable + 1) (set args variable x) ≡ take (variable + 1) (instance_at s picks)
written_more s picks args origins variable x d same low size written is =
    let count = ap length same in
    let less : variable < length args = omega arith in
    let there : variable < length (instance_at s picks) = omega (arith, length-map s.origins (read s picks)) in
    ap (λ n. take n (set args variable x)) (add-one variable)
    ∙ take-suc-set args variable x less
    ∙ (λ i. written i ++ (is ∙ ap (λ xs. read s picks (get_or xs variable d)) same ∙ sym (get_or-map (read s picks) s.origins variable d 0 (omega arith))) i ∷ [])
    ∙ sym (take-suc (instance_at s picks) variable 0 there)
    ∙ ap (λ n. take n (instance_at s picks)) (sym (add-one variable))

module _ (form : Form) (facts : List Fact) (elements : ℕ) (place : Place) (space : Searched) (same : space ≡ searched form facts elements) where
  -- where no picks are left, no instance is
  pub nothing_left : picks_left space place.stage place.picks ≡ [] → rest_of place form facts elements ≡ []
  unfolding rest_of
  nothing_left e = subst (λ s. map (instance_at s) (picks_left s place.stage place.picks) ≡ []) same (ap (map (instance_at space)) e)

  -- the instance at the next picks is given, and the others are left
  pub one_given : (next : Place) → next.stage ≡ Given → next.args ≡ instance_at space next.picks
      → picks_left space place.stage place.picks ≡ next.picks ∷ left_after space 0 next.picks
      → rest_of place form facts elements ≡ next.args ∷ rest_of next form facts elements
  unfolding rest_of
  one_given next stage args e =
      subst (λ s. map (instance_at s) (picks_left s place.stage place.picks) ≡ next.args ∷ map (instance_at s) (picks_left s next.stage next.picks)) same
      (ap (map (instance_at space)) e ∙ (λ i. sym args i ∷ map (instance_at space) (picks_left space (sym stage i) next.picks)))
