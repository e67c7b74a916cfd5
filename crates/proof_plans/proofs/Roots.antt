-- What variables stand for.
use Rattle.std.proofs.Common.{◌≡◌, ◌≢◌, ℕ, ◌+◌, ◌-◌, ◌≤◌, inl, inr, Bool, List, slice_index, Some, ap, sym, ◌∙◌, arith}
use Rattle.proof_plans.specs.Moves.{Agrees, Differ}
use Rattle.proof_plans.specs.Joining.{IsRoot, IsFixed, Binds}

-- two fixed roots that are not the same are two elements
pub fixed_differ : (start : ℕ) (fixed : List Bool) (values : List ℕ) → Differ start fixed values → (a b : ℕ) → IsFixed start fixed a → IsFixed start fixed b → a ≢ b
    → slice_index values a ≢ slice_index values b
fixed_differ start fixed values d a b (inl x) (inl y) differ = λ same. differ (sym (d.itself a x) ∙ same ∙ d.itself b y)
fixed_differ start fixed values d a b (inl x) (inr y) differ = λ same.
    let from : start ≤ b = y.0 in let at : start + (b - start) ≡ b = omega arith in
    d.new (b - start) y.1 a x (ap (slice_index values) at ∙ sym same ∙ d.itself a x)
fixed_differ start fixed values d a b (inr x) (inl y) differ = λ same.
    let from : start ≤ a = x.0 in let at : start + (a - start) ≡ a = omega arith in
    d.new (a - start) x.1 b y (ap (slice_index values) at ∙ same ∙ d.itself b y)
fixed_differ start fixed values d a b (inr x) (inr y) differ = λ same.
    let from : start ≤ a = x.0 in let at : start + (a - start) ≡ a = omega arith in
    let from_b : start ≤ b = y.0 in let at_b : start + (b - start) ≡ b = omega arith in
    d.apart (a - start) (b - start) x.1 y.1 (λ e. differ (let k : a - start ≡ b - start = e in omega arith)) (ap (slice_index values) at ∙ same ∙ sym (ap (slice_index values) at_b))

module _ (start : ℕ) (bound : List ℕ) (one other left right : ℕ) (l : IsRoot start bound one left) (r : IsRoot start bound other right) where
  -- the left root is bound to the right one
  pub bind_left : start ≤ left → Binds start bound one other (left - start) right
  bind_left from =
      let at : start + (left - start) ≡ left = omega arith in record {
        free = l.free from ∙ ap Some (sym at);
        within = r.within;
        binds = λ values agrees same. ap (slice_index values) at ∙ sym (l.same values agrees) ∙ same ∙ r.same values agrees;
      }

  -- the right root is bound to the left one
  pub bind_right : start ≤ right → Binds start bound one other (right - start) left
  bind_right from =
      let at : start + (right - start) ≡ right = omega arith in record {
        free = r.free from ∙ ap Some (sym at);
        within = l.within;
        binds = λ values agrees same. ap (slice_index values) at ∙ sym (r.same values agrees) ∙ sym same ∙ l.same values agrees;
      }

  -- two fixed roots clash
  pub roots_clash : (fixed : List Bool) → IsFixed start fixed left → IsFixed start fixed right → left ≢ right → (values : List ℕ) → Agrees start bound values → Differ start fixed values
      → slice_index values one ≢ slice_index values other
  roots_clash fixed x y differ values agrees d = λ same.
      fixed_differ start fixed values d left right x y differ (sym (l.same values agrees) ∙ same ∙ r.same values agrees)
